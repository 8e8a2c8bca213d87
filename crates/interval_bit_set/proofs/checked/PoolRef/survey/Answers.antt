-- `survey` meets its contract: a square that is not on the plane is refused; of another the pieces are counted, and put where there is room.
-- Assumes nothing.
use Rattle.std.proofs.Common.{refl, ◌≡◌, Some, length, ap, ◌∙◌, subst, ap₂, arith}
use Rattle.model.specs.Positions.{Positions}
use Rattle.model.specs.Bytes.{into_front}
use Rattle.model.specs.Grid.{survey}
use Rattle.pool.specs.Layout.{held, held_by}
use Rattle.model.specs.Call.{Call}
use Rattle.model.specs.declared.Refusal.TheVariants.{OffPlane}
use Rattle.grid.specs.Areas.{SquareOf}
use Rattle.interval_bit_set.proofs.Putting.{put-refused, put-short, put-seen, refused-square, short-after-square, square-passes}
use Rattle.interval_bit_set.proofs.Looking.{found}
use Rattle.interval_bit_set.proofs.Handing.{put-shut}
use Rattle.interval_bit_set.proofs.checked.PoolRef.survey.Goals as goal
use Rattle.interval_bit_set.proofs.checked.PoolRef.survey.Goals.{After-due}

-- the square is the one that was asked for
square : (o : After-due) → SquareOf o.args.row o.args.column o.args.k (Some o.in-Some.square)
square o = subst (SquareOf o.args.row o.args.column o.args.k) o.in-Some.is o.square_of.ensures

-- so its pieces are
pieces : (o : After-due) (P : Positions) → let s = o.in-Some.square in survey P s.k s.corner.row s.corner.column ≡ survey P o.args.k o.args.row o.args.column
pieces o P =
    let s = square o in
    ap₂ (λ k r. survey P k r o.in-Some.square.corner.column) s.3 s.1 ∙ ap (survey P o.args.k o.args.row) s.2

-- and as many
many : (d : After-due) → d.due.result ≡ length (survey (held_by d.args.self.words.now d.args.world) d.args.k d.args.row d.args.column)
many d = d.due.ensures ∙ ap length (pieces d (held d.in_ok-set.set) ∙ ap (λ P. survey P d.args.k d.args.row d.args.column) d.in_ok-set.ensures.1)

pub returns-in_default : goal.returns-in_default
returns-in_default c =
    put-refused c.args.out.now (Call.survey c.args.row c.args.column c.args.k) _ refl
    (found c.args.self.checked c.in_ok-set.ensures.0) OffPlane (refused-square _ _ _ (subst (SquareOf c.args.row c.args.column c.args.k) c.in_default.is c.square_of.ensures))

pub returns-then-out-due : goal.returns-then-out-due
returns-then-out-due c =
    put-short c.args.out.now (Call.survey c.args.row c.args.column c.args.k) (λ P. survey P c.args.k c.args.row c.args.column) refl
    (found c.args.self.checked c.in_ok-set.ensures.0) (many (goal.at.returns-then-out-due c).After-due) c.if-out-due.true
    (short-after-square _ _ _ (square (goal.at.returns-then-out-due c).After-due).0)

pub returns : goal.returns
returns c =
    let o = (goal.at.returns c).After-due in
    let P = held c.in_ok-set.set in
    put-seen c.args.out.now (Call.survey c.args.row c.args.column c.args.k) (λ P. survey P c.args.k c.args.row c.args.column) refl (found c.args.self.checked c.in_ok-set.ensures.0)
    (c.put.ensures.words ∙ ap length (pieces o P ∙ ap (λ Q. survey Q c.args.k c.args.row c.args.column) c.in_ok-set.ensures.1))
    P c.in_ok-set.ensures.1 (square-passes _ _ _ (square o).0) (omega (arith, c.if-out-due.false, c.due.ensures, c.put.ensures.words))
    (c.put.ensures.slice ∙ ap (λ ps. into_front ps c.args.out.now) (pieces o P))

pub returns-in_err-set : goal.returns-in_err-set
returns-in_err-set c = put-shut _ c.from_residual.ensures.1 (λ e p. p) refl c.args.self.checked c.in_err-set.ensures
