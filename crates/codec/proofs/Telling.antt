-- What bytes are as a written set, test by test in the order of refusals, and how many runs the set of an ordered list has: just the
-- list's, since its runs are canonical. So runs that are told can be counted against an allowance before a world gets them.
-- Assumes nothing.
use Rattle.std.proofs.Common.{None, Some, ℕ, ◌+◌, ◌*◌, ◌≤◌, ◌<◌, ◌≡◌, sym, ap, ◌∙◌, Bool, true, false, not, List, [], ◌∷◌, length, take, drop, get_or, arith, eq-eqb, ne_eqb, lt-ltb}
use Rattle.std.proofs.Common.{le-ltb}
use borrow.Author.Tests.{not-false}
use Rattle.model.specs.declared.Edition.{Edition}
use Rattle.model.specs.declared.Edition.TheVariants.{Rows, Columns}
use Rattle.model.specs.Positions.{stretches, mem}
use Rattle.model.specs.Bytes.{value_of, version_of, runs_due, edition_of, runs_told, decode}
use Rattle.model.specs.Refusals.{refusal, too_short, bad_version, bad_length, ordered_from, set_short, set_version, set_length, ◌when◌, shape_conditions, set_conditions}
use Rattle.model.specs.RunList.{AllBytes}
use Rattle.model.proofs.Codec.{decode-length, decode-words}
use Rattle.run_lists.proofs.Ordered.{ordered-stretches, disorder-is}
use Rattle.codec.specs.Parsed.{Shaped, Acceptable}

-- ---- a set's shape is tested before its order
-- where no test of the shape refuses, none of the three conditions holds
none-holds : (a b c : Bool) → refusal (set_short when a ∷ set_version when b ∷ set_length when c ∷ []) ≡ None → (a ≡ false) × (b ≡ false) × (c ≡ false)
none-holds a b c e = (grind arith, grind arith, grind arith)

-- ---- bytes, test by test
module _ (bs : List ℕ) where
  -- fewer than 5 are refused
  pub told-short : length bs < 5 → refusal (shape_conditions bs) ≡ Some 3
  unfolding too_short
  told-short h = rw (lt-ltb (length bs) 5 h)

  module _ (long : 5 ≤ length bs) where
    -- so is a version that is neither 1 nor 2
    pub told-version : (get_or bs 0 0 ≡ 1 → ⊥) → (get_or bs 0 0 ≡ 2 → ⊥) → refusal (shape_conditions bs) ≡ Some 4
    unfolding too_short bad_version
    told-version h k = rw (le-ltb (length bs) 5 long, ne_eqb (get_or bs 0 0) 1 h, ne_eqb (get_or bs 0 0) 2 k)

    -- that of an edition is not, and tells it
    pub version-is : {e : Edition} (d : Edition) → e ≡ d → get_or bs 0 0 ≡ version_of d → (bad_version bs ≡ false) × (e ≡ edition_of bs)
    unfolding bad_version edition_of
    version-is Rows r h = (rw h, r ∙ rw h)
    version-is Columns r h = (rw h, r ∙ rw h)

    module _ {e : Edition} (version : (bad_version bs ≡ false) × (e ≡ edition_of bs)) {n : ℕ} (count : n ≡ value_of (take 4 (drop 1 bs))) where
      -- another length than its runs ask is refused
      pub told-length : (length bs ≡ 5 + 16 * n → ⊥) → refusal (shape_conditions bs) ≡ Some 3
      unfolding too_short bad_length runs_due
      told-length h = rw (le-ltb (length bs) 5 long, version.0, ← count, ne_eqb (length bs) (5 + 16 * n) h)

      -- that one passes, as the last of the shape
      pub told-shape : length bs ≡ 5 + 16 * n → Shaped bs e n
      unfolding too_short bad_length runs_due
      told-shape exact = record {
        free = rw (le-ltb (length bs) 5 long, version.0, ← count, eq-eqb (length bs) (5 + 16 * n) exact);
        edition = version.1;
        due = count;
        long = exact;
      }

  module _ {e : Edition} {n : ℕ} (sh : Shaped bs e n) where
    -- the runs as the code reads them
    pub shaped-runs : runs_told e n (drop 5 bs) ≡ decode bs
    unfolding decode
    shaped-runs = rw (sh.edition, sh.due)

    module _ {r : Bool} (tested : r ≡ ordered_from 0 (runs_told e n (drop 5 bs))) where
      -- they are those tested
      pub shaped-tested : r ≡ ordered_from 0 (decode bs)
      shaped-tested = tested ∙ ap (ordered_from 0) shaped-runs

      -- out of order they are refused
      pub told-order : not r ≡ true → refusal (set_conditions bs) ≡ Some 5
      told-order h = let f = none-holds (too_short bs) (bad_version bs) (bad_length bs) sh.free in rw (f.0, f.1, f.2, disorder-is (decode bs) shaped-tested true h)

      -- and else accepted
      pub told-runs : not r ≡ false → Acceptable bs e n
      told-runs h =
          let f = none-holds (too_short bs) (bad_version bs) (bad_length bs) sh.free in
          record {
            shaped = sh;
            free = rw (f.0, f.1, f.2, disorder-is (decode bs) shaped-tested false h);
            ordered = sym shaped-tested ∙ not-false _ h;
          }

  -- ---- runs that are accepted
  module _ {e : Edition} {n : ℕ} (a : Acceptable bs e n) where
    -- as the code reads them
    pub accepted-runs : runs_told e n (drop 5 bs) ≡ decode bs
    accepted-runs = shaped-runs a.shaped

    -- in order
    pub accepted-order : ordered_from 0 (runs_told e n (drop 5 bs)) ≡ true
    accepted-order = ap (ordered_from 0) accepted-runs ∙ a.ordered

    -- as many as their set has
    pub accepted-stretches : AllBytes bs → n ≡ stretches (mem (decode bs))
    accepted-stretches h = a.shaped.due ∙ sym (ordered-stretches (decode bs) (decode-words bs h) a.ordered ∙ decode-length bs)
