-- The tests of the whole pool decide whether it is sound: where they pass, the trees and the free chain have as many nodes as there are, so
-- they share them out; and a sound pool passes each. Assumes nothing.
use Rattle.pool.proofs.Base.{◌≡◌, ℕ, ◌+◌, ◌-◌, ◌*◌, ◌<◌, ◌≤◌, true, List, length, arith, le-leb, most_worlds, claims, nat_tests, opened_at, free_head, world_at, nodes, capacity, node_count, worlds_of}
use Rattle.pool.proofs.Base.{sum_to, runs_at, Planted, Sound, rest_b, header_b, worlds_b, unopened_b, told_runs, sound_b}
use Rattle.pool.proofs.Parts.{nodes-length}
use Rattle.pool.proofs.Nodes.{sized-length}
use Rattle.pool.proofs.Following.{rest_b-yes, rest_b-no}
use Rattle.pool.proofs.Records.{header-out, header-in, unopened-out, unopened-in}
use Rattle.pool.proofs.Shared.{shared-out}
use Rattle.pool.proofs.Placed.{worlds-out, worlds-in, told-runs}

-- where all pass the pool is sound
pub sound_b-yes : (w : List ℕ) → 1 ≤ capacity w → sound_b w ≡ true → Sound w
unfolding sound_b
sound_b-yes w sized e =
    let T : (header_b w ≡ true) × (worlds_b w (opened_at w) ≡ true) × (unopened_b w (opened_at w) (most_worlds - opened_at w) ≡ true)
    × (claims (worlds_of w) ≤ capacity w) × (rest_b (nodes w) (node_count w) (told_runs w (opened_at w)) (free_head w) ≡ true) = grind (arith, nat_tests) in
    let H = header-out w T.0 in
    let P = worlds-out w (opened_at w) T.1 in
    let R = rest_b-yes (nodes w) (node_count w) (told_runs w (opened_at w)) (free_head w) T.4 in
    let grown : (k : ℕ) → k < opened_at w → Planted (nodes w) (world_at w k) = λ k l. (P k l).fitting in
    let long : length (nodes w) ≡ 8 * (node_count w + 1) = omega (arith, nodes-length w, (sized-length w sized).0) in
    let many : sum_to (opened_at w) (runs_at w) + length R.ns ≡ node_count w = omega (arith, told-runs w (opened_at w) grown, R.many) in
    record {
      sized = sized;
      some = H.some;
      few = H.few;
      padded = H.is;
      unopened = λ k l m. unopened-out w (opened_at w) (most_worlds - opened_at w) T.2 k l (omega arith);
      planted = grown;
      free = R.ns;
      chained = R.chain;
      shared = shared-out w (node_count w) (opened_at w) grown R.ns R.chain long many;
      counted = many;
      limited = λ k l. (P k l).limited;
      fits = T.3;
    }

-- and where it is sound they pass
pub sound_b-no : (w : List ℕ) → Sound w → sound_b w ≡ true
unfolding sound_b
sound_b-no w S =
    rw (
      header-in w (record { some = S.some; few = S.few; is = S.padded }),
      worlds-in w (opened_at w) (λ k l. record { fitting = S.planted k l; limited = S.limited k l }),
      unopened-in w (opened_at w) (most_worlds - opened_at w) (λ k l m. S.unopened k l (omega (arith, S.few))),
      le-leb (claims (worlds_of w)) (capacity w) S.fits,
    )
    (rest_b-no (nodes w) (node_count w) (told_runs w (opened_at w)) (free_head w) (record {
      ns = S.free;
      chain = S.chained;
      many = omega (arith, told-runs w (opened_at w) S.planted, S.counted);
    }))
