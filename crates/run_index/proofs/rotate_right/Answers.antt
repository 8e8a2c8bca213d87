-- `rotate_right` meets its contract: the node n gets the trees beside it, and then goes under the root of the left tree.
-- Both writes are a turn (Turning.antt). Assumes nothing.
use Rattle.std.proofs.Common.{refl, arith}
use Rattle.run_index.proofs.Heap.{view, made_as}
use Rattle.run_index.proofs.Turning.{right-turn, right_is, right-none, low-pullable, low-at, other_at, high-pullable, rotated}
use Rattle.run_index.proofs.rotate_right.Goals as goal

pub pull-requires : goal.pull-requires
pull-requires c =
    let h = c.requires.joinable.2 in
    let v = view _ _ _ _ _ h.left c.requires.p_nonzero c.read_node-x.ensures in
    low-pullable (right-turn h v)

pub pull-requires-2 : goal.pull-requires-2
pull-requires-2 c =
    let h = c.requires.joinable.2 in
    let v = view _ _ _ _ _ h.left c.requires.p_nonzero c.read_node-x.ensures in
    let u = right-turn h v in
    let e₁ = c.pull.ensures in
    high-pullable u e₁ (other_at u e₁) (low-at u e₁) (λ k. omega arith)

pub returns : goal.returns
returns c =
    λ l r h.
    let v = view _ _ _ _ _ h.left c.requires.p_nonzero c.read_node-x.ensures in
    let u = right-turn h v in
    let e₁ = c.pull.ensures in
    made_as refl (right_is h v) (rotated u e₁ (other_at u e₁) (low-at u e₁) (λ k. omega arith) c.pull-2.ensures _ (right-none h v))
