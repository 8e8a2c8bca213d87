-- Round trips between positions and written sets, as the model's own calls: what is written loads to the same positions, what loads is
-- written back byte for byte, and nothing else loads. A load is done exactly if none of its conditions holds, and such bytes are the
-- encoding of the canonical run list that is read from them, which is the list of the runs held after it. Assumes nothing.
use Rattle.std.specs.Prelude.{Option, None, Some}
use mathlib.Core.Path.{◌≡◌, refl, sym, ap, ◌∙◌, subst, fun_ext}
use mathlib.Core.Logic.{◌⊎◌, inl, inr}
use mathlib.Core.Bool.{Bool, true, false, ◌&&◌, ◌||◌, or-false, true≢false}
use mathlib.Core.List.{List, [], ◌∷◌, ◌++◌}
use Prim.Native.Nat.{ℕ, ◌^◌, ◌≤◌, ◌<◌}
use native.Mathlib.Omega.{arith}
use lib.Dec.{ltb}
use lib.ListN.{length}
use borrow.Author.Tests.{le-ltb}
use Rattle.model.specs.Numbers.{size}
use Rattle.model.proofs.Numbers.{split}
use Rattle.model.proofs.Refused.{cond-none, given-after}
use Rattle.model.specs.Positions.{Positions, held_runs, stretches, mem, bounded}
use Rattle.model.proofs.Runs.{held_runs-mem, held_runs-canon, mem-held_runs, held_runs-cong}
use Rattle.model.proofs.Ops.{bounded-mem}
use Rattle.model.specs.declared.Edition.{Edition}
use Rattle.model.specs.Bytes.{encode, edition_of, decode, into_front}
use Rattle.model.specs.RunList.{AllBytes, AllWords}
use Rattle.model.proofs.Codec.{decode-encode, encode_injective, canon-words, Intact, encode-intact, intact-canon, intact-encode}
use Rattle.model.specs.Refusals.{
  Cause,
  set_short,
  set_version,
  set_length,
  run_order,
  capacity,
  number_of,
  order,
  cause-discrete,
  is_cause,
  Condition,
  ◌when◌,
  given,
  first_given,
  refusal,
  too_short,
  bad_length,
  bad_version,
  disordered,
  set_conditions,
  too_many,
  no_room,
}
use Rattle.model.specs.Call.{Fed, holding, load, write_set, gave, done, written}
use Rattle.model.specs.Model.{positions_of, planned, settle, first_refusal, serve}

-- ---- which bytes load
-- the conditions of loading bytes, beside those of the world
abbrev pub conditions : (ℕ → Bool) → List ℕ → List Condition
conditions full bs = capacity when too_many full (mem (decode bs)) ∷ set_conditions bs

-- none of them holds, but for the world's own
pub record Accepted (full : ℕ → Bool) (bs : List ℕ) : Type 0 where
  pub intact : Intact bs
  pub fits : too_many full (mem (decode bs)) ≡ false

-- whether the cause k is one of ks
abbrev lists : Cause → List Cause → Bool
lists k [] = false
lists k (j ∷ ks) = is_cause k j || lists k ks

-- a cause that is found to be another is that one
same-given : (k j : Cause) (cs : List Condition) → is_cause k j ≡ true → given j cs ≡ false → given k cs ≡ false
same-given k j cs e h = go (cause-discrete k j) e
  where
    go : (d : Dec (k ≡ j)) → elim d [ yes f ↦ true | no f ↦ false ] ≡ true → given k cs ≡ false
    go (yes f) p = ap (λ i. given i cs) f ∙ h
    go (no f) p = absurd (true≢false (sym p))

-- a call that is not refused is given no cause of the order
none-given : (ks : List Cause) (cs : List Condition) → first_given ks cs ≡ None → (k : Cause) → lists k ks ≡ true → given k cs ≡ false
none-given [] cs e k l = absurd (true≢false (sym l))
none-given (j ∷ ks) cs e k l =
    let p = cond-none (given j cs) (number_of j) (first_given ks cs) e in
    go (is_cause k j) refl l p.0 (none-given ks cs p.1 k)
  where
    go : (b : Bool) → is_cause k j ≡ b → (b || lists k ks) ≡ true → given j cs ≡ false → (lists k ks ≡ true → given k cs ≡ false) → given k cs ≡ false
    go true f m h r = same-given k j cs f h
    go false f m h r = r m

-- so bytes whose conditions stand among those of a call that is not refused are intact
pub unrefused-intact : (cs : List Condition) (bs : List ℕ) → refusal (cs ++ set_conditions bs) ≡ None → Intact bs
unrefused-intact cs bs e =
    let n : (k : Cause) → lists k order ≡ true → given k (set_conditions bs) ≡ false =
    λ k l. given-after k cs (set_conditions bs) (none-given order (cs ++ set_conditions bs) e k l) in
    record {
      long = sym (or-false (too_short bs)) ∙ n set_short refl;
      version = sym (or-false (bad_version bs)) ∙ n set_version refl;
      length-fits = sym (or-false (bad_length bs)) ∙ n set_length refl;
      ordered = sym (or-false (disordered (decode bs))) ∙ n run_order refl;
    }

-- and where it is a load, they meet no condition
pub unrefused-accepted : (full : ℕ → Bool) (bs : List ℕ) → refusal (conditions full bs) ≡ None → Accepted full bs
unrefused-accepted full bs e =
    let t : Bool = too_many full (mem (decode bs)) in
    record {
      intact = unrefused-intact (capacity when t ∷ []) bs e;
      fits = sym (or-false t) ∙ none-given order (conditions full bs) e capacity refl;
    }

-- and the other way round, at a world that can be read
pub accepted-unrefused : (full : ℕ → Bool) (bs : List ℕ) → Accepted full bs → refusal (conditions full bs) ≡ None
accepted-unrefused full bs A = let I = A.intact in rw (I.long, I.version, I.length-fits, I.ordered, A.fits)

-- what the model gives of loading, by these conditions
pub load-by : (full : ℕ → Bool) (s : Fed) (bs : List ℕ)
    → serve full s (planned (load bs)) ≡ settle (first_refusal (s ∷ []) (conditions full bs)) (positions_of s) done (bounded (mem (decode bs)))
unfolding serve
load-by full s bs = refl

-- a call that is done was not refused
done-unrefused : (y : Option ℕ) (S Q : Positions) → (settle y S done Q).answer ≡ gave done → y ≡ None
done-unrefused None S Q e = refl
done-unrefused (Some n) S Q e = let z : ◌≡◌ {A = ℕ} 0 1 = cc in absurd (omega arith)

-- accepted bytes load, and the world then has their positions
pub accepted-loads : (full : ℕ → Bool) (S : Positions) (bs : List ℕ) → Accepted full bs
    → serve full (holding S) (planned (load bs)) ≡ record { answer = gave done; positions = bounded (mem (decode bs)) }
accepted-loads full S bs A = load-by full (holding S) bs ∙ ap (λ n. settle n S done (bounded (mem (decode bs)))) (accepted-unrefused full bs A)

-- and what loads was accepted
pub loads-accepted : (full : ℕ → Bool) (S : Positions) (bs : List ℕ) → (serve full (holding S) (planned (load bs))).answer ≡ gave done → Accepted full bs
loads-accepted full S bs e =
    unrefused-accepted full bs
    (done-unrefused (refusal (conditions full bs)) S (bounded (mem (decode bs))) (sym (ap (λ o. o.answer) (load-by full (holding S) bs)) ∙ e))

-- accepted bytes are those of the positions read from them, in the edition that they tell, also after the bound
pub accepted-bytes : (full : ℕ → Bool) (bs : List ℕ) → AllBytes bs → Accepted full bs
    → (encode (edition_of bs) (held_runs (mem (decode bs))) ≡ bs) × (encode (edition_of bs) (held_runs (bounded (mem (decode bs)))) ≡ bs)
accepted-bytes full bs b A =
    let c = intact-canon bs b A.intact in
    let f : encode (edition_of bs) (held_runs (mem (decode bs))) ≡ bs = ap (encode (edition_of bs)) (held_runs-mem (decode bs) c) ∙ intact-encode bs b A.intact in
    (f, ap (λ Q. encode (edition_of bs) (held_runs Q)) (bounded-mem (decode bs) c) ∙ f)

-- ---- what positions write
-- the ends of all runs held are words
pub held-words : (P : Positions) → AllWords (held_runs P)
held-words P = canon-words 0 (held_runs P) (held_runs-canon P)

-- as many runs as a pool can hold are far fewer than a written set can tell
countable : (P : Positions) → stretches P ≤ 65536 → length (held_runs P) < 2 ^ 32
unfolding stretches
countable P h = omega arith

-- they are read again
pub held-read : (e : Edition) (P : Positions) → stretches P ≤ 65536 → decode (encode e (held_runs P)) ≡ held_runs P
held-read e P h = decode-encode e (held_runs P) (held-words P) (countable P h)

-- and accepted where there is room for them
pub held-accepted : (full : ℕ → Bool) (e : Edition) (P : Positions) → stretches P ≤ 65536 → full (stretches P) ≡ false → Accepted full (encode e (held_runs P))
unfolding too_many stretches
held-accepted full e P h f =
    let n : length (held_runs (mem (decode (encode e (held_runs P))))) ≡ length (held_runs P) =
    ap (λ rs. length (held_runs (mem rs))) (held-read e P h) ∙ ap length (held_runs-mem (held_runs P) (held_runs-canon P)) in
    record { intact = encode-intact e (held_runs P) (held_runs-canon P) (countable P h); fits = ap full n ∙ f }

-- the positions of the runs held are all that are held below 2^64
pub bounded-held : (P : Positions) → bounded (mem (held_runs P)) ≡ bounded P
unfolding bounded
bounded-held P = fun_ext (λ x. go x (split x size))
  where
    go : (x : ℕ) → (x < size) ⊎ (size ≤ x) → bounded (mem (held_runs P)) x ≡ bounded P x
    go x (inl h) = ap (λ t. ltb x size && t) (mem-held_runs P x h)
    go x (inr h) = rw (le-ltb x size h)

-- where there is room the bytes are written
pub written-whole : (full : ℕ → Bool) (e : Edition) (P : Positions) (out : List ℕ) → length (encode e (held_runs P)) ≤ length out
    → serve full (holding P) (planned (write_set e out)) ≡ record { answer = gave (written (length (encode e (held_runs P))) (into_front (encode e (held_runs P)) out)); positions = P }
unfolding serve no_room
written-whole full e P out h = rw (le-ltb (length out) (length (encode e (held_runs P))) h)

-- ---- THE ROUND TRIPS
-- the set that P writes, in either edition, loads into any world that may have P's runs, and gives P
pub written-loads :
    (full : ℕ → Bool) (e : Edition) (P S : Positions) → stretches P ≤ 65536 → full (stretches P) ≡ false
    → serve full (holding S) (planned (load (encode e (held_runs P)))) ≡ record { answer = gave done; positions = bounded P }
written-loads full e P S h f =
    accepted-loads full S (encode e (held_runs P)) (held-accepted full e P h f)
    ∙ ap (λ Q. record { answer = gave done; positions = Q }) (ap (λ rs. bounded (mem rs)) (held-read e P h) ∙ bounded-held P)

-- bytes that load are written back as they were, in the edition that they tell
pub loaded-writes :
    (full : ℕ → Bool) (S : Positions) (bs out : List ℕ) → AllBytes bs → (serve full (holding S) (planned (load bs))).answer ≡ gave done → length bs ≤ length out
    → (serve full (holding (serve full (holding S) (planned (load bs))).positions) (planned (write_set (edition_of bs) out))).answer ≡ gave (written (length bs) (into_front bs out))
loaded-writes full S bs out b e h =
    let A = loads-accepted full S bs e in
    let Q : Positions = bounded (mem (decode bs)) in
    let f : encode (edition_of bs) (held_runs Q) ≡ bs = (accepted-bytes full bs b A).1 in
    ap (λ o. (serve full (holding o.positions) (planned (write_set (edition_of bs) out))).answer) (accepted-loads full S bs A)
    ∙ ap (λ o. o.answer) (written-whole full (edition_of bs) Q out (subst (λ cs. length cs ≤ length out) (sym f) h))
    ∙ ap (λ cs. gave (written (length cs) (into_front cs out))) f

-- bytes load exactly if they are the written set, in some edition, of positions with not too many runs
pub loads-exactly :
    (full : ℕ → Bool) (S : Positions) (bs : List ℕ) → AllBytes bs
    → ((serve full (holding S) (planned (load bs))).answer ≡ gave done → (e : Edition) × (P : Positions) × (full (stretches P) ≡ false) × (bs ≡ encode e (held_runs P)))
    × ((e : Edition) (P : Positions) → stretches P ≤ 65536 → full (stretches P) ≡ false → bs ≡ encode e (held_runs P) → (serve full (holding S) (planned (load bs))).answer ≡ gave done)
unfolding too_many
loads-exactly full S bs b = (
  λ e. let A = loads-accepted full S bs e in (edition_of bs, mem (decode bs), A.fits, sym (accepted-bytes full bs b A).0),
  λ e P h f g. ap (λ cs. (serve full (holding S) (planned (load cs))).answer) g ∙ ap (λ o. o.answer) (written-loads full e P S h f),
)

-- equal positions write equal bytes in one edition, and different positions different bytes
pub bytes-tell :
    (e : Edition) (P Q : Positions) → stretches P ≤ 65536 → stretches Q ≤ 65536
    → (((x : ℕ) → x < size → P x ≡ Q x) → encode e (held_runs P) ≡ encode e (held_runs Q))
    × (encode e (held_runs P) ≡ encode e (held_runs Q) → (x : ℕ) → x < size → P x ≡ Q x)
bytes-tell e P Q h k = (
  λ f. ap (encode e) (held_runs-cong P Q f),
  λ f x l.
      let same : held_runs P ≡ held_runs Q =
      encode_injective e (held_runs P) (held_runs Q) (held-words P) (held-words Q) (countable P h) (countable Q k) f in
      sym (mem-held_runs P x l) ∙ ap (λ rs. mem rs x) same ∙ mem-held_runs Q x l,
)
