-- Determinism holds (specs/Determinism.antt). Both plays end in pools that hold the model's worlds, and a world of such
-- a pool writes the bytes of the model's positions into any slice that has room for 5 + 16 × C bytes. So what one play
-- writes, every play of its moves writes; and bytes that load are written by the play that loads them into a new pool
-- with the limits of the pool that they load into. Assumes nothing.
use Rattle.std.specs.Prelude.{None, Some, Ok}
use Prim.Native.Nat.{ℕ, ◌≤◌, ◌<◌}
use mathlib.Core.Path.{◌≡◌, refl, sym, ap, ◌∙◌, subst}
use mathlib.Core.Logic.{◌⊎◌, inl, inr}
use mathlib.Core.List.{List, [], ◌∷◌}
use native.Mathlib.Omega.{arith}
use lib.ListN.{length, take}
use Rattle.model.specs.declared.Limits.{Limits}
use Rattle.model.specs.declared.Edition.{Edition}
use Rattle.model.specs.Bytes.{edition_of, into_front}
use Rattle.model.specs.RunList.{AllBytes}
use Rattle.model.specs.Call.{Call, at, done, gave}
use Rattle.model.specs.Pools.{PlainWorld, world_of, empty_worlds}
use Rattle.model.proofs.Numbers.{split}
use Rattle.pool.specs.Layout.{opened_at, held_by, plain_at, worlds_of}
use Rattle.pool.specs.Settle.{Openable}
use Rattle.pool.proofs.WorldLists.{opened-world, unopened-world}
use Rattle.interval_bit_set.specs.Met.{Site}
use Rattle.interval_bit_set.proofs.Putting.{take-front}
use Rattle.interval_bit_set.proofs.Simulation.{Holds}
use Rattle.theorems.specs.Plays.{nothing, single, Move, plans, heard_as, met, rest, move, left, worlds_after}
use Rattle.theorems.specs.Determinism.{WriteAlike, Loads, MayWrite, Writes, Writable, Determinism}
use Rattle.theorems.specs.Theorems.{WritesSet}
use Rattle.theorems.proofs.Writing.{bytes_of, written-met, fills, as-set, writer-readable, written_is, written-alike}
use Rattle.theorems.proofs.Loading.{writer-loads}
use Rattle.theorems.proofs.Reloading.{reloaded, reloaded-long}
use Rattle.theorems.proofs.Plays.{new-holds, goes-along, left-after, play-alike}

-- ---- the worlds of a pool that holds the model's
-- a world that the model has was opened, and holds the model's positions
record Found (w : List ℕ) (i : ℕ) (x : PlainWorld) : Type 0 where
  pub openable : Openable w i
  pub holds : x.positions ≡ held_by w i

found : {C : ℕ} {xs : List PlainWorld} {w : List ℕ} {i : ℕ} {x : PlainWorld}
    → Holds C xs w → world_of xs i ≡ Some x → Found w i x
found {xs = xs} {w = w} {i = i} {x = x} H e = go (split i (opened_at w))
  where
    here : world_of (worlds_of w) i ≡ Some x
    here = ap (λ us. world_of us i) H.held ∙ e

    go : (i < opened_at w) ⊎ (opened_at w ≤ i) → Found w i x
    go (inl l) =
        let f : Some (plain_at w i) ≡ Some x = sym (opened-world w i l) ∙ here in
        let y : plain_at w i ≡ x = cc in
        record {
          openable = record { sound = H.sound; named = l };
          holds = ap (λ (z : PlainWorld). z.positions) (sym y);
        }
    go (inr l) =
        let f : Some x ≡ None = sym here ∙ unopened-world w i l in
        let z : ◌≡◌ {A = ℕ} 0 1 = cc in
        absurd (omega arith)

-- ---- sets that are written
-- from two pools of one capacity
write-alike : {C : ℕ} {xs ys : List PlainWorld} {w v : List ℕ}
    → Holds C xs w → Holds C ys v → WriteAlike C xs w ys v
write-alike {C} {w = w} {v = v} H K e i j x y out due out' due' r s a b room room' W X =
    let f = found H a in
    let g = found K b in
    let p = fills f.openable e W (omega (arith, room, H.sized)) in
    let q = fills g.openable e X (omega (arith, room', K.sized)) in
    let alike = written-alike (as-set W p.0) (as-set X q.0) in
    record {
      n = length (bytes_of e (held_by w i));
      m = length (bytes_of e (held_by v j));
      first = p.0;
      second = q.0;
      same = λ d. alike.0 (sym f.holds ∙ d ∙ g.holds);
      only = λ d. f.holds ∙ alike.1 d ∙ sym g.holds;
    }

-- what one play writes, every play of its moves does
writes-every :
    {C : ℕ} {limits : List Limits} {moves : List (Move (Call Site))} {world : ℕ} {e : Edition} {bs : List ℕ}
    → MayWrite C limits moves world e bs → Writes C limits moves world e bs
writes-every {C} {limits} {moves} {world = i} {e} {bs} M first heard states out out' r N p room W =
    let w : List ℕ = left M.first M.states in
    let v : List ℕ = left first states in
    let S : WritesSet w i e bs = subst (WritesSet w i e) (sym M.bytes) (as-set M.writes refl) in
    let H = left-after (new-holds M.new) M.plays in
    let K = left-after (new-holds N) p in
    let here : world_of (worlds_after C (empty_worlds limits) (plans moves)) i ≡ Some (plain_at w i) =
    ap (λ us. world_of us i) (sym H.held) ∙ opened-world w i (writer-readable S).openable.named in
    let f = found K here in
    let same : bytes_of e (held_by v i) ≡ bs = ap (bytes_of e) (sym f.holds) ∙ sym (written_is S) in
    subst (λ cs. (r ≡ Ok (length cs)) × (take (length cs) out' ≡ cs)) same
    (fills f.openable e W (omega (arith, room, K.sized)))

-- ---- bytes that are a set
-- those that load are written by the play that loads them
loads-written : {C : ℕ} {bs : List ℕ} → AllBytes bs → Loads C bs → Writable C bs
loads-written {C} {bs} b L =
    let R = reloaded b L in
    let e : Edition = edition_of bs in
    let cs : List ℕ = bytes_of e (held_by R.pool R.world) in
    let M : MayWrite C R.limits (single (at R.world (Call.load bs)) nothing ∷ []) R.world e bs = record {
      first = R.first;
      new = R.new;
      heard = heard_as (gave done) nothing ∷ [];
      states = R.pool ∷ [];
      plays = move (met R.met) rest;
      out = bs;
      out' = into_front cs bs;
      n = length cs;
      writes = record {
        met = written-met R.openable e bs (reloaded-long R);
        unwritten = tt;
      };
      bytes = sym R.written ∙ sym (take-front cs bs);
    } in
    record {
      limits = R.limits;
      moves = single (at R.world (Call.load bs)) nothing ∷ [];
      world = R.world;
      edition = e;
      every = writes-every M;
      some = M;
    }

-- and those that some play writes load
written-loads :
    {C : ℕ} {limits : List Limits} {moves : List (Move (Call Site))} {world : ℕ} {e : Edition} {bs : List ℕ}
    → MayWrite C limits moves world e bs → Loads C bs
written-loads {C} {world = i} {e = e} M =
    let w : List ℕ = left M.first M.states in
    writer-loads (left-after (new-holds M.new) M.plays).sized
    (subst (WritesSet w i e) (sym M.bytes) (as-set M.writes refl))

-- ---- THE MAIN THEOREM
pub determinism : Determinism
determinism = (
  λ C ls ks w v ms ns hs gs ws vs N M p q.
      let H = left-after (new-holds N) p in
      let K = left-after (new-holds M) q in
      record {
        first = goes-along (new-holds N) p;
        second = goes-along (new-holds M) q;
        bytes = write-alike H K;
        later = λ e. play-alike H (subst (λ us. Holds C us (left v vs)) (sym e) K);
      },
  λ C bs b. (loads-written b, λ limits moves world e M. written-loads M),
)
