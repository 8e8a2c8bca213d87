-- The laws of putting bytes into a slice: byte by byte, part after part, and from the front. What is put is what a chain of element
-- writes leaves, so each law is one of such chains. Assumes nothing.
use Rattle.std.proofs.Common.{ℕ, suc, ◌+◌, ◌≤◌, ◌<◌, ◌≡◌, sym, ap, ◌∙◌, List, [], ◌∷◌, ◌++◌, append_assoc, arith, length, take, drop, set, get_or, length-append, length-set}
use Rattle.std.proofs.Common.{take-append-drop, length-take-le, rules}
use lib.Seq.{sets, length-sets, sets-eq}
use Rattle.std.proofs.lemmas.List.{places}
use Rattle.model.specs.Bytes.{into_front}
use Rattle.codec.specs.Placed.{placed}

-- a chain of element writes puts its bytes
pub sets-placed : (bs out : List ℕ) (i : ℕ) → i + length bs ≤ length out → sets out i bs ≡ placed i bs out
unfolding placed
sets-placed bs out i h = sets-eq bs out i h ∙ append_assoc (take i out) bs (drop (i + length bs) out)

-- chains follow one another
sets-append : (bs cs out : List ℕ) (i : ℕ) → sets (sets out i bs) (i + length bs) cs ≡ sets out i (bs ++ cs)
sets-append [] cs out i = let e : i + 0 ≡ i = omega arith in ap (λ (k : ℕ). sets out k cs) e
sets-append (b ∷ bs) cs out i =
    let e : i + suc (length bs) ≡ suc i + length bs = omega arith in
    ap (λ (k : ℕ). sets (sets (set out i b) (suc i) bs) k cs) e ∙ sets-append bs cs (set out i b) (suc i)

-- no byte changes nothing
pub placed-nil : (i : ℕ) (out : List ℕ) → placed i [] out ≡ out
unfolding placed
placed-nil i out = let e : i + 0 ≡ i = omega arith in rw e (take-append-drop i out)

-- the slice stays as long
pub placed-length : (i : ℕ) (bs out : List ℕ) → i + length bs ≤ length out → length (placed i bs out) ≡ length out
placed-length i bs out h = ap length (sym (sets-placed bs out i h)) ∙ length-sets out i bs

-- one byte, and the others after it
pub placed-set : (i b : ℕ) (bs out : List ℕ) → i + suc (length bs) ≤ length out → placed (suc i) bs (set out i b) ≡ placed i (b ∷ bs) out
placed-set i b bs out h =
    sym (sets-placed bs (set out i b) (suc i) (omega (arith, length-set out i b))) ∙ sets-placed (b ∷ bs) out i h

-- one part, and the next after it
pub placed-placed : (i : ℕ) (bs cs out : List ℕ) → i + length bs + length cs ≤ length out → placed (i + length bs) cs (placed i bs out) ≡ placed i (bs ++ cs) out
placed-placed i bs cs out h =
    let f : sets out i bs ≡ placed i bs out = sets-placed bs out i (omega arith) in
    ap (λ (l : List ℕ). placed (i + length bs) cs l) (sym f)
    ∙ sym (sets-placed cs (sets out i bs) (i + length bs) (omega (arith, length-sets out i bs)))
    ∙ sets-append bs cs out i
    ∙ sets-placed (bs ++ cs) out i (omega (arith, length-append bs cs))

-- ---- byte by byte
module _ (i : ℕ) (bs out : List ℕ) (p : ℕ) (h : i ≤ length out) where
  -- what stands before
  pub placed-before : p < i → get_or (placed i bs out) p 0 ≡ get_or out p 0
  unfolding placed
  placed-before l = search (rules, places)

  -- what is put
  pub placed-inside : p < length bs → get_or (placed i bs out) (i + p) 0 ≡ get_or bs p 0
  unfolding placed
  placed-inside l = let m : length (take i out) ≡ i = length-take-le i out h in search (rules, places)

  -- what stands after
  pub placed-after : i + length bs ≤ p → get_or (placed i bs out) p 0 ≡ get_or out p 0
  unfolding placed
  placed-after l = let m : length (take i out) ≡ i = length-take-le i out h in search (rules, places)

-- put from the start on, they are the front
pub placed-front : (bs out : List ℕ) → placed 0 bs out ≡ into_front bs out
unfolding placed into_front
placed-front bs out = let e : 0 + length bs ≡ length bs = omega arith in rw e
