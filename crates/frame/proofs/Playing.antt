-- The loop of `play`: after i records the pool holds the worlds that the model has then, and the slice starts with the records of what
-- the model answered so far. Assumes nothing.
use Rattle.std.specs.Prelude.{◌≡◌, ℕ, suc, ◌+◌, ◌-◌, ◌*◌, ◌<◌, ◌≤◌, List, [], ◌∷◌, ◌++◌, length}
use mathlib.Core.Path.{refl, sym, ap, ap₂, ◌∙◌, subst}
use mathlib.Core.List.{append_assoc, append-nil}
use native.Mathlib.Omega.{arith}
use lib.ListN.{length-append}
use Rattle.model.specs.Positions.{Positions}
use Rattle.model.specs.Call.{PoolCall, at, Answer, refused, gave}
use Rattle.model.specs.Model.{Plan}
use Rattle.model.specs.Pools.{PlainWorld, step, answers, after}
use Rattle.pool.specs.Layout.{capacity, worlds_of}
use Rattle.pool.specs.Soundness.{Sound}
use Rattle.codec.specs.Placed.{placed}
use Rattle.codec.proofs.Placing.{placed-nil, placed-length, placed-placed, placed-front}
use Rattle.model.specs.Bytes.{into_front}
use Rattle.interval_bit_set.specs.Met.{Leaves, Met}
use Rattle.interval_bit_set.proofs.Simulation.{Holds, answer-is, step-holds}
use Rattle.frame.specs.declared.entry.Entry.{Entry}
use Rattle.flat.specs.declared.Reply.{Reply}
use Rattle.flat.specs.Flat.{reply_of}
use Rattle.frame.specs.Records.{entry_at, call_of, world_by, pool_call_of, calls_from}
use Rattle.flat.specs.Records.{words_of, records_of}
use Rattle.frame.specs.Serving.{Serves, Plays}
use Rattle.frame.proofs.FedCalls.{records-length}

-- after i of n records, the words are v and the slice is o
pub record Playing (w cs out : List ℕ) (n i : ℕ) (v o : List ℕ) : Type 0 where
  pub most : i ≤ n
  pub worlds : List PlainWorld
  pub said : List Answer
  pub many : length said ≡ i
  pub kept : Holds (capacity w) worlds v
  pub long : length v ≡ length w
  pub wrote : o ≡ placed 0 (records_of said) out
  pub answered : answers (capacity w) (worlds_of w) (calls_from cs 0 n) ≡ said ++ answers (capacity w) worlds (calls_from cs i (n - i))
  pub after-all : after (capacity w) (worlds_of w) (calls_from cs 0 n) ≡ after (capacity w) worlds (calls_from cs i (n - i))

-- ---- one call
-- what a call leaves is as long as before
left-long : (w w' : List ℕ) (i : ℕ) (P : Positions) (a : Answer) → Leaves w w' i P a → length w' ≡ length w
left-long w w' i P (refused n) l = ap length l
left-long w w' i P (gave r) l = l.long

module _ {C : ℕ} {ws : List PlainWorld} {w w' : List ℕ} {a : Answer} (e : Entry) (H : Holds C ws w) (m : Met w (world_by e) (call_of e) a w') where
  -- a record is answered as the model answers its call
  answer-of : a ≡ (step C ws (pool_call_of e)).answer
  answer-of = answer-is H m

  -- and leaves what the model does
  holds_of : Holds C (step C ws (pool_call_of e)).worlds w'
  holds_of = step-holds H m

-- ---- lists
-- one record, and those after it
calls-next : (cs : List ℕ) (i n : ℕ) → i < n → calls_from cs i (n - i) ≡ pool_call_of (entry_at cs i) ∷ calls_from cs (i + 1) (n - (i + 1))
unfolding calls_from
calls-next cs i n h =
    let e : n - i ≡ suc (n - (i + 1)) = omega arith in
    let f : suc i ≡ i + 1 = omega arith in
    ap (calls_from cs i) e ∙ ap (λ k. pool_call_of (entry_at cs i) ∷ calls_from cs k (n - (i + 1))) f

-- none are left
calls-none : (cs : List ℕ) (i n : ℕ) → n ≤ i → calls_from cs i (n - i) ≡ []
unfolding calls_from
calls-none cs i n h = let e : n - i ≡ 0 = omega arith in ap (calls_from cs i) e

module _ (C : ℕ) (ws : List PlainWorld) (c : PoolCall Plan) (cs : List (PoolCall Plan)) where
  answers-cons : answers C ws (c ∷ cs) ≡ (step C ws c).answer ∷ answers C (step C ws c).worlds cs
  unfolding answers
  answers-cons = refl

  after-cons : after C ws (c ∷ cs) ≡ after C (step C ws c).worlds cs
  unfolding after
  after-cons = refl

-- the record of one more answer comes last
records-more : (rs : List Answer) (a : Answer) → records_of (rs ++ a ∷ []) ≡ records_of rs ++ words_of (reply_of a)
unfolding records_of
records-more [] a = refl
records-more (b ∷ rs) a = ap (λ l. words_of (reply_of b) ++ l) (records-more rs a)

-- ---- the loop
-- at first
pub none-played : {w : List ℕ} (cs out : List ℕ) (n : ℕ) → Sound w → Playing w cs out n 0 w out
unfolding records_of
none-played {w} cs out n S =
    let e : n ≡ n - 0 = omega arith in
    record {
      most = omega arith;
      worlds = worlds_of w;
      said = [];
      many = refl;
      kept = record { sound = S; sized = refl; held = refl };
      long = refl;
      wrote = sym (placed-nil 0 out);
      answered = ap (λ k. answers (capacity w) (worlds_of w) (calls_from cs 0 k)) e;
      after-all = ap (λ k. after (capacity w) (worlds_of w) (calls_from cs 0 k)) e;
    }

module _ {w cs out v o : List ℕ} {n i : ℕ} (I : Playing w cs out n i v o) where
  -- the pool stays sound
  pub playing-sound : Sound v
  playing-sound = I.kept.sound

  -- the slice is as long as before
  pub playing-wide : 8 * n ≤ length out → length o ≡ length out
  playing-wide room = ap length I.wrote ∙ placed-length 0 (records_of I.said) out (omega (arith, records-length I.said, I.many, I.most))

  module _ (h : i < n) (room : 8 * n ≤ length out) where
    -- the slice after one more record
    more-wrote : (a : Answer) {o' : List ℕ} → o' ≡ placed (8 * i) (words_of (reply_of a)) o → o' ≡ placed 0 (records_of (I.said ++ a ∷ [])) out
    more-wrote a p =
        let l : 8 * i ≡ 0 + length (records_of I.said) = omega (arith, records-length I.said, I.many) in
        p
        ∙ ap₂ (λ k s. placed k (words_of (reply_of a)) s) l I.wrote
        ∙ placed-placed 0 (records_of I.said) (words_of (reply_of a)) out (omega arith)
        ∙ ap (λ s. placed 0 s out) (sym (records-more I.said a))

    -- one more record is served
    one_more : {a : Answer} {v' o' : List ℕ} → Met v (world_by (entry_at cs i)) (call_of (entry_at cs i)) a v' → o' ≡ placed (8 * i) (words_of (reply_of a)) o → Playing w cs out n (i + 1) v' o'
    one_more {a} m p =
        let C = capacity w in
        let P = I.worlds in
        let c : PoolCall Plan = pool_call_of (entry_at cs i) in
        let ds : List (PoolCall Plan) = calls_from cs (i + 1) (n - (i + 1)) in
        let Q = (step C P c).worlds in
        record {
          most = omega arith;
          worlds = Q;
          said = I.said ++ a ∷ [];
          many = length-append I.said (a ∷ []) ∙ ap (λ k. k + 1) I.many;
          kept = holds_of (entry_at cs i) I.kept m;
          long = left-long _ _ _ _ a m.left ∙ I.long;
          wrote = more-wrote a p;
          answered =
              I.answered
              ∙ ap (λ l. I.said ++ l) (ap (answers C P) (calls-next cs i n h) ∙ answers-cons C P c ds ∙ ap (λ b. b ∷ answers C Q ds) (sym (answer-of (entry_at cs i) I.kept m)))
              ∙ sym (append_assoc I.said (a ∷ []) (answers C Q ds));
          after-all = I.after-all ∙ ap (after C P) (calls-next cs i n h) ∙ after-cons C P c ds;
        }

    pub more-played : {e : Entry} {r : Reply} {v' o' : List ℕ} → e ≡ entry_at cs i → Serves v e r v' → o' ≡ placed (8 * i) (words_of r) o → Playing w cs out n (i + 1) v' o'
    more-played {v' = v'} p (a, m, f) q =
        one_more (subst (λ d. Met v (world_by d) (call_of d) a v') p m) (q ∙ ap (λ s. placed (8 * i) (words_of s) o) f)

  -- at last
  pub all-played : n ≤ i → Plays w cs out n v o
  unfolding answers after
  all-played h =
      let C = capacity w in
      let s : answers C (worlds_of w) (calls_from cs 0 n) ≡ I.said = I.answered ∙ ap (λ l. I.said ++ answers C I.worlds l) (calls-none cs i n h) ∙ append-nil I.said in
      let p : after C (worlds_of w) (calls_from cs 0 n) ≡ I.worlds = I.after-all ∙ ap (after C I.worlds) (calls-none cs i n h) in
      record {
        pooled = record { sound = I.kept.sound; worlds = I.kept.held ∙ sym p; long = I.long };
        wrote = I.wrote ∙ placed-front (records_of I.said) out ∙ ap (λ rs. into_front (records_of rs) out) (sym s);
      }
