-- The call of `handed`, as a walk by hand makes it: what it is given, and what it gives back of the slice. All that is known of it is its contract.
-- Assumes nothing but the logic's own laws.
use Prim.Native.Nat.{ℕ, ◌≤◌}
use mathlib.Core.Path.{◌≡◌, refl, subst}
use mathlib.Core.List.{List, [], ◌∷◌, ◌++◌}
use lib.ListN.{length, drop}
use seplogic.Ra.Ura.{Ura}
use mir.Syntax.{named}
use base.Logic.{SProp, ent, sep, emp, via, comm∗, mono_l, mono_r, emp∗}
use base.Stored.{coded_list}
use base.Fml.{Lft, GName, Share, Fml, flft, fres}
use prog.Memory.{Memory}
use prog.Routine.{Routine}
use types.Logic.{Logic, sem}
use types.Kit.{Item, prop, Step, step, ‵, ◌$◌, ◌∵◌, !, qed, move, join, fjoin, rewrite, frame, done}
use contract.Monad.{Fun, fact, fact_i}
use denote.RattleType.{RattleType}
use denote.Array.{Array}
use denote.Builtin.{u8, usize}
use denote.Follow.{follows, follows_by}
use denote.Ref.{MutBor}
use denote.Slice.{slice_val}
use denote.Steps.{nothing}
use denote.Enum.Laws as EL
use denote.Triple.Spec.{triple_of}
use denote.Triple.Statement.{Contract}
use denote.Triple.Walked.{says}
use Rattle.std.specs.Borrow.{LendsIfOk}
use Rattle.std.specs.Prelude.{Ok, Err, IfOk}
use Rattle.std.specs.contracts.result.Result as R
use Rattle.model.specs.Answers.{OrRefusal}
use Rattle.model.specs.contracts.Refusal as F
use Rattle.model.specs.declared.Refusal.{Refusal}
use Rattle.model.specs.Positions.{Positions}
use Rattle.model.specs.Refusals.{Condition}
use Rattle.model.specs.Call.{Call}
use Rattle.interval_bit_set.specs.Met.{Site, outcome_of}
use Rattle.interval_bit_set.specs.Out.{WritesOut}
use Rattle.interval_bit_set.specs.Parts.{Part, Handed, front_of, count_of}
use Rattle.interval_bit_set.proofs.Handing.{Puts, part-behind, refused-whole}
use Rattle.interval_bit_set.proofs.Lending.{at-list, Slice}
use Rattle.interval_bit_set.proofs.Counted.{Counted, counted}
use Rattle.interval_bit_set.specs.contracts.write.handed as h

-- a slice u under the name γ that ends as t tells: the bytes of the part before d, or as l
abbrev pub Ends : GName → ℕ × ℕ → List ℕ → Part → List ℕ → List ℕ → Fml
Ends γ p u t d l = LendsIfOk (Array u8 0) (Array u8 0) (at-list u8 p.0 p.1 γ u) t (λ ws. ws ++ d) l

abbrev pub Row : RattleType
Row = R.the_row usize F.the_row

module _ {M : Type 1} {𝓤 : Ura M} (𝓛 : Logic 𝓤) where
  open 𝓛 use {A}

  -- as it says of a slice of other words, where these stand behind the part too, or are its words
  ends-alike : (γ : GName) (p : ℕ × ℕ) (u u' : List ℕ) (t : Part) (d d' l l' : List ℕ) → ((part : MutBor (List ℕ)) → t ≡ Ok part → d ≡ d') → ((e : Refusal) → t ≡ Err e → l ≡ l')
      → ent 𝓤 (sem 𝓛 (Ends γ p u t d l)) (sem 𝓛 (Ends γ p u' t d' l'))
  unfolding follows_by
  ends-alike γ p u u' (Ok part) d d' l l' ok err =
      qed 𝓛 (‵ (follows (Array u8 0) (Array u8 0) γ part.ghost_name (λ ws. ws ++ d)) ∷ []) ∵
      rewrite ! 0 (λ (x : List ℕ). ‵ (follows (Array u8 0) (Array u8 0) γ part.ghost_name (λ ws. ws ++ x))) (ok part refl) refl $ done !
  ends-alike γ p u u' (Err e) d d' l l' ok err =
      qed 𝓛 (‵ (fres γ ((coded_list u8.coded).code l)) ∷ []) ∵ rewrite ! 0 (λ (x : List ℕ). ‵ (fres γ ((coded_list u8.coded).code x))) (err e refl) refl $ done !

  -- so of the slice ys into whose front a call wrote, which is l then, and of which a part was handed on
  pub ends-told : {w : List ℕ} {i : ℕ} {c : List ℕ → Call Site} {cs : List Condition} {B : Positions → List ℕ} {ys l : List ℕ} {r : OrRefusal ℕ}
      → Puts c cs B ys → WritesOut c w i ys r l → (γ : GName) (p : ℕ × ℕ) (t : Part) → Handed r l p t
      → ent 𝓤 (sem 𝓛 (Ends γ p l t (drop (count_of r) l) l)) (sem 𝓛 (Ends γ p ys t (drop (length (front_of (outcome_of w i (c ys)).answer)) ys) ys))
  ends-told {ys = ys} {l} {r} puts wrote γ p t told =
      ends-alike γ p l ys t _ _ l ys (λ part is. part-behind puts wrote p part (subst (Handed r l p) is told))
      (λ e is. refused-whole puts wrote p e (subst (Handed r l p) is told))

module _ {M : Type 1} (𝓤 : Ura M) where
  -- two facts are shown, and the rest of the goal is left
  with-facts : (P : SProp 𝓤) (φ ψ : Type 0) → φ × ψ → ent 𝓤 P (sep 𝓤 P (sep 𝓤 (fact 𝓤 φ) (fact 𝓤 ψ)))
  with-facts P φ ψ x =
      let both : ent 𝓤 (emp 𝓤) (sep 𝓤 (fact 𝓤 φ) (fact 𝓤 ψ)) =
      via 𝓤 (sep 𝓤 (emp 𝓤) (emp 𝓤)) (emp∗ 𝓤 (emp 𝓤))
      (via 𝓤 (sep 𝓤 (fact 𝓤 φ) (emp 𝓤)) (mono_l 𝓤 (emp 𝓤) (fact_i 𝓤 φ (emp 𝓤) x.0)) (mono_r 𝓤 (fact 𝓤 φ) (fact_i 𝓤 ψ (emp 𝓤) x.1))) in
      via 𝓤 (sep 𝓤 (emp 𝓤) P) (emp∗ 𝓤 P) (via 𝓤 (sep 𝓤 (sep 𝓤 (fact 𝓤 φ) (fact 𝓤 ψ)) P) (mono_l 𝓤 P both) (comm∗ 𝓤 (sep 𝓤 (fact 𝓤 φ) (fact 𝓤 ψ)) P))

pub says-two : {M : Type 1} {𝓤 : Ura M} {𝓛 : Logic 𝓤} {K : Type 0} {Γ : List (Item 𝓤)} → K → {φ ψ : Type 0} {P : SProp 𝓤} → φ × ψ
    → Step K 𝓛 Γ (prop P) Γ (prop (sep 𝓤 P (sep 𝓤 (fact 𝓤 φ) (fact 𝓤 ψ))))
says-two {𝓤 = 𝓤} t {φ} {ψ} {P} x = step (λ s. record { prf = via 𝓤 P s.prf (with-facts 𝓤 P φ ψ x) })

module _ {M : Type 1} {𝓤 : Ura M} (𝓛 : Logic 𝓤) (mem : Memory → SProp 𝓤) (run : Routine → Fun 𝓤) (κ : Lft) (q : Share) (b o : ℕ) (γ : GName) (l : List ℕ) (n : ℕ) (r : OrRefusal ℕ) where
  open 𝓛 use {A}

  abbrev pub Contracted : Contract 𝓤
  Contracted = triple_of 𝓛 h.signature (h.spec 𝓛 mem run)

  abbrev pub given-args : MutBor (List ℕ) × (OrRefusal ℕ × Unit {0})
  given-args = (at-list u8 b o γ l, (r, tt))

  abbrev pub to-handed : Contracted.Ghost
  to-handed = (((κ, tt), (q, tt), tt, given-args, (slice_val (b, o) n ∷ [], (EL.vals Counted counted r, tt))), tt)

  pub goes-handed : IfOk r (λ n. n ≤ length l)
      → ent 𝓤 (sep 𝓤 (A.lft κ q) (sep 𝓤 (sem 𝓛 (Slice 𝓛 u8 (named 0) κ q b o γ κ γ l n)) (sem 𝓛 (Row.own_val r (EL.vals Counted counted r))))) (Contracted.pre to-handed)
  goes-handed within =
      qed 𝓛 (‵ (flft κ q) ∷ ‵ (Slice 𝓛 u8 (named 0) κ q b o γ κ γ l n) ∷ ‵ (Row.own_val r (EL.vals Counted counted r)) ∷ []) ∵ says ! within $
      nothing ! $ move ! (1 ∷ 0 ∷ []) $ join ! $ frame ! $ nothing ! $ move ! (2 ∷ 0 ∷ []) $ fjoin ! $ move ! (1 ∷ 0 ∷ []) $ fjoin ! $ done !
