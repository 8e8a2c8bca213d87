-- Parts of two halves make parts of the whole, where it has no one value: a cell is in one half, and so in just one piece; a greater piece would come
-- from the same half, or be the whole; and of two pieces that something halved parts, both lie in what comes from one half, or one in each half.
-- Assumes nothing.
use Prim.Native.Nat.{ℕ}
use mathlib.Core.Path.{sym, subst}
use mathlib.Core.Logic.{◌⊎◌, inl, inr}
use mathlib.Core.Bool.{Bool}
use mathlib.Core.List.{List, [], ◌∷◌, ◌++◌}
use Rattle.std.specs.List.{AllByRecursion}
use Rattle.model.specs.Positions.{Positions}
use Rattle.theorems.specs.Surveys.{
  Piece,
  HasCell,
  HasValue,
  IsOneValued,
  Comes,
  whole,
  left,
  right,
  upper,
  lower,
  LiesIn,
  Listed,
  IsInOne,
  here,
  there,
  ComesFirst,
  AreInOrder,
  IsRightlyListed,
  Parts,
}
use Rattle.theorems.proofs.SurveysHalving.{comes-in, comes-on, Halves, itself, in_first, in_second, way, not-second, not-first}

-- ---- lists, one after the other
-- what holds of each in both lists
each-both : (Q : Listed → Type 0) (xs ys : List Listed) → AllByRecursion Q xs → AllByRecursion Q ys → AllByRecursion Q (xs ++ ys)
each-both Q [] ys h g = g
each-both Q (x ∷ xs) ys h g = (h.0, each-both Q xs ys h.1 g)

-- and what follows from one thing, or from two, that hold of each
each-map : (Q R : Listed → Type 0) → ((x : Listed) → Q x → R x) → (xs : List Listed) → AllByRecursion Q xs → AllByRecursion R xs
each-map Q R f [] h = tt
each-map Q R f (x ∷ xs) h = (f x h.0, each-map Q R f xs h.1)

each-two : (Q R S : Listed → Type 0) → ((x : Listed) → Q x → R x → S x) → (xs : List Listed) → AllByRecursion Q xs
    → AllByRecursion R xs → AllByRecursion S xs
each-two Q R S f [] h g = tt
each-two Q R S f (x ∷ xs) h g = (f x h.0 g.0, each-two Q R S f xs h.1 g.1)

module _ (row column : ℕ) where
  -- a cell is in none of them
  abbrev Away : List Listed → Type 0
  Away = AllByRecursion (λ k. HasCell k.piece row column → ⊥)

  -- one of the first list, and none of the second
  in-left : {xs : List Listed} (ys : List Listed) → IsInOne row column xs → Away ys → IsInOne row column (xs ++ ys)
  in-left ys (here {l} {ls} h out) away = here h (each-both (λ k. HasCell k.piece row column → ⊥) ls ys out away)
  in-left ys (there out i) away = there out (in-left ys i away)

  -- or the other way round
  in-right : (xs : List Listed) {ys : List Listed} → Away xs → IsInOne row column ys → IsInOne row column (xs ++ ys)
  in-right [] away i = i
  in-right (x ∷ xs) away i = there away.0 (in-right xs away.1 i)

-- ---- the order
module _ {b f s : Piece} (H : Halves b f s) where
  -- what was halved is the whole, or comes from one half, and then so do both pieces
  ordered : {p q : Piece} → (LiesIn p s → LiesIn q f → ⊥) → (LiesIn q f → ComesFirst f p q)
      → (LiesIn p s → ComesFirst s p q) → ComesFirst b p q
  ordered {p} {q} parted in_f in_s = record {
    columns = λ r c m h i j. elim (way H h) [
      | itself e ↦ parted (subst (LiesIn p) (sym (H.by_column r c m e).1) i) (subst (LiesIn q) (sym (H.by_column r c m e).0) j)
      | in_first g ↦ (in_f (λ x y k. comes-in (left r c m g) x y (j x y k))).columns r c m g i j
      | in_second g ↦ (in_s (λ x y k. comes-in (right r c m g) x y (i x y k))).columns r c m g i j
    ];
    rows = λ r c m h i j. elim (way H h) [
      | itself e ↦ parted (subst (LiesIn p) (sym (H.by_row r c m e).1) i) (subst (LiesIn q) (sym (H.by_row r c m e).0) j)
      | in_first g ↦ (in_f (λ x y k. comes-in (upper r c m g) x y (j x y k))).rows r c m g i j
      | in_second g ↦ (in_s (λ x y k. comes-in (lower r c m g) x y (i x y k))).rows r c m g i j
    ];
  }

  -- pieces of the first half
  first-ordered : {p q : Piece} → Comes f p → ComesFirst f p q → ComesFirst b p q
  first-ordered h o = ordered (λ i j. not-second H h i) (λ j. o) (λ i. absurd (not-second H h i))

  -- of the second one
  second-ordered : {p q : Piece} → Comes s q → ComesFirst s p q → ComesFirst b p q
  second-ordered h o = ordered (λ i j. not-first H h j) (λ j. absurd (not-first H h j)) (λ i. o)

  -- and one of each
  both-ordered : {p q : Piece} → Comes f p → Comes s q → ComesFirst b p q
  both-ordered h g = ordered (λ i j. not-second H h i) (λ j. absurd (not-first H g j)) (λ i. absurd (not-second H h i))

  -- so a list of the second half keeps its order
  second-list : (ys : List Listed) → AllByRecursion (λ y. Comes s y.piece) ys → AreInOrder s ys → AreInOrder b ys
  second-list [] h o = tt
  second-list (y ∷ ys) h o = (
    each-two (λ z. Comes s z.piece) (λ z. ComesFirst s y.piece z.piece) (λ z. ComesFirst b y.piece z.piece) (λ z. second-ordered) ys h.1 o.0,
    second-list ys h.1 o.1,
  )

  -- and is in order after one of the first
  both-lists : (xs ys : List Listed) → AllByRecursion (λ x. Comes f x.piece) xs → AllByRecursion (λ y. Comes s y.piece) ys
      → AreInOrder f xs → AreInOrder s ys → AreInOrder b (xs ++ ys)
  both-lists [] ys h g o n = second-list ys g n
  both-lists (x ∷ xs) ys h g o n = (
    each-both (λ z. ComesFirst b x.piece z.piece) xs ys
        (each-map (λ z. ComesFirst f x.piece z.piece) (λ z. ComesFirst b x.piece z.piece) (λ z. first-ordered h.0) xs o.0)
        (each-map (λ y. Comes s y.piece) (λ z. ComesFirst b x.piece z.piece) (λ z. both-ordered h.0) ys g),
    both-lists xs ys h.1 g o.1 n,
  )

-- ---- parts
module _ (P : Positions) where
  -- a piece of one value is the one part of itself
  pub one-part : (b : Piece) (v : Bool) → HasValue P b v → Parts P b (record { piece = b; value = v } ∷ [])
  one-part b v h = record {
    once = λ row column i. here i tt;
    each = (record { comes = whole; valued = h; largest = λ q g i o. comes-in g }, tt);
    in_order = (tt, tt);
  }

  -- each part comes from the whole
  come : {b : Piece} {ls : List Listed} → Parts P b ls → AllByRecursion (λ l. Comes b l.piece) ls
  come {b} {ls} p = each-map (IsRightlyListed P b) (λ l. Comes b l.piece) (λ l h. h.comes) ls p.each

  module _ {b f s : Piece} (H : Halves b f s) (two : IsOneValued P b → ⊥) where
    -- what is rightly listed of a half is so of the whole,
    first-listed : (l : Listed) → IsRightlyListed P f l → IsRightlyListed P b l
    first-listed l h = record {
      comes = comes-on H.first h.comes;
      valued = h.valued;
      largest = λ q g i o. elim (way H g) [
        | itself e ↦ absurd (two (subst (IsOneValued P) (sym e) o))
        | in_first k ↦ h.largest q k i o
        | in_second k ↦ absurd (not-second H h.comes (λ x y c. comes-in k x y (i x y c)))
      ];
    }

    -- of either half
    second-listed : (l : Listed) → IsRightlyListed P s l → IsRightlyListed P b l
    second-listed l h = record {
      comes = comes-on H.second h.comes;
      valued = h.valued;
      largest = λ q g i o. elim (way H g) [
        | itself e ↦ absurd (two (subst (IsOneValued P) (sym e) o))
        | in_first k ↦ absurd (not-first H h.comes (λ x y c. comes-in k x y (i x y c)))
        | in_second k ↦ h.largest q k i o
      ];
    }

    -- THE LAW: the parts of the first half and then those of the second
    pub both-parts : {xs ys : List Listed} → Parts P f xs → Parts P s ys → Parts P b (xs ++ ys)
    both-parts {xs} {ys} p q = record {
      once = λ row column i. at row column (H.cover row column i);
      each = each-both (IsRightlyListed P b) xs ys
          (each-map (IsRightlyListed P f) (IsRightlyListed P b) first-listed xs p.each)
          (each-map (IsRightlyListed P s) (IsRightlyListed P b) second-listed ys q.each);
      in_order = both-lists H xs ys (come p) (come q) p.in_order q.in_order;
    }
      where
        at : (row column : ℕ) → HasCell f row column ⊎ HasCell s row column → IsInOne row column (xs ++ ys)
        at row column (inl i) =
            in-left row column ys (p.once row column i)
            (each-map (λ y. Comes s y.piece) (λ y. HasCell y.piece row column → ⊥) (λ y h j. H.apart row column i (comes-in h row column j)) ys (come q))
        at row column (inr i) =
            in-right row column xs
            (each-map (λ x. Comes f x.piece) (λ x. HasCell x.piece row column → ⊥) (λ x h j. H.apart row column (comes-in h row column j) i) xs (come p))
            (q.once row column i)
