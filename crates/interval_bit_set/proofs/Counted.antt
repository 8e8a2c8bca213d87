-- A Result of a count, and of a part of a slice, as the machine has them: what a walk by hand of a match on the one and of the making of the other
-- needs. Assumes nothing but the logic's own laws.
use Prim.Native.Nat.{ℕ, ◌<◌, ◌^◌}
use mathlib.Core.Path.{refl}
use mathlib.Core.List.{List, [], ◌∷◌}
use seplogic.Ra.Ura.{Ura}
use mir.Val.{Val, of_list}
use base.Logic.{ent}
use types.Logic.{Logic, sem}
use types.Kit.{‵, ◌$◌, ◌∵◌, !, qed, move, fjoin, feq_i, fpack, done}
use types.Match.{live}
use denote.RattleType.{RattleType, Valss, owns}
use denote.Laws.{Is, Lawful}
use denote.Builtin.{usize}
use denote.Steps.{nothing}
use denote.Enum.Declared.{Declared, shape}
use denote.Enum.Enum.{Enum, Enum-Lawful, form_of, in_a_row}
use denote.Struct.Recorded.{recorded_lawful}
use denote.Enum.Row.{tagged_with}
use denote.Enum.Laws as EL
use denote.Struct.Field.{u64-field}
use denote.Struct.Laws.{u64-laws, u64-copy}
use denote.Param.Laws.{of_field, field_told}
use denote.Param.Shared.{copy_shared}
use Rattle.std.specs.Prelude.{Ok, Err}
use Rattle.std.specs.contracts.result.Result as R
use Rattle.std.proofs.result.Result.TheLaws as R'
use Rattle.model.specs.declared.Refusal.{Refusal}
use Rattle.model.specs.contracts.Refusal as F
use Rattle.model.proofs.Refusal.TheLaws as F'

abbrev pub Counted : Declared
Counted = R.the_type usize F.the_row

abbrev pub counted : EL.Laws Counted
counted = R'.the_laws usize F.the_row (of_field u64-field u64-laws refl (copy_shared u64-field u64-copy)) F'.the_row_laws (field_told u64-field u64-laws) F'.the_told

abbrev pub refusal-val : Refusal → Val
refusal-val = EL.val F.the_type F'.the_laws

-- what whoever holds it knows
pub count-fits : (n : ℕ) → Is (R.the_row usize F.the_row) (Ok n) (EL.vals Counted counted (Ok n)) → n < 2 ^ 64
count-fits n p = (EL.owed Counted counted (Ok n) _ p).0.1

pub is-refusal : (r : Refusal) → Is (R.the_row usize F.the_row) (Err r) (EL.vals Counted counted (Err r)) → Is F.the_row r (refusal-val r ∷ [])
is-refusal r p = (EL.owed Counted counted (Err r) _ p).0

module _ {M : Type 1} {𝓤 : Ura M} (𝓛 : Logic 𝓤) where
  -- a Result is made
  module _ (X : RattleType) where
    pub Ok-of : (x : X.Denot) (v : Val) → ent 𝓤 (sem 𝓛 (X.own_val x (v ∷ []))) (sem 𝓛 ((R.the_row X F.the_row).own_val (Ok x) (live 0 (of_list (v ∷ [])) ∷ [])))
    Ok-of x v =
        let T = R.the_type X F.the_row in
        qed 𝓛 (‵ (X.own_val x (v ∷ [])) ∷ []) ∵ nothing ! $ move ! (1 ∷ 0 ∷ []) $ fjoin ! $ feq_i ! (List Val) (v ∷ []) (v ∷ []) refl $ fjoin ! $
        fpack ! (Valss (X ∷ [])) (in_a_row (X ∷ []) (owns (X ∷ []) (x, tt)) (v ∷ [])) (v ∷ [], tt) $
        feq_i ! (List Val) (live 0 (of_list (v ∷ [])) ∷ []) (live 0 (of_list (v ∷ [])) ∷ []) refl $ fjoin ! $
        fpack ! (List Val) (tagged_with (form_of (shape T)) (form_of (shape T)).payload (T.to (Ok x)) (live 0 (of_list (v ∷ [])) ∷ [])) (v ∷ []) $ done !

    pub Err-of : (r : Refusal) (v : Val) → ent 𝓤 (sem 𝓛 (F.the_row.own_val r (v ∷ []))) (sem 𝓛 ((R.the_row X F.the_row).own_val (Err r) (live 1 (of_list (v ∷ [])) ∷ [])))
    Err-of r v =
        let T = R.the_type X F.the_row in
        qed 𝓛 (‵ (F.the_row.own_val r (v ∷ [])) ∷ []) ∵ nothing ! $ move ! (1 ∷ 0 ∷ []) $ fjoin ! $ feq_i ! (List Val) (v ∷ []) (v ∷ []) refl $ fjoin ! $
        fpack ! (Valss (F.the_row ∷ [])) (in_a_row (F.the_row ∷ []) (owns (F.the_row ∷ []) (r, tt)) (v ∷ [])) (v ∷ [], tt) $
        feq_i ! (List Val) (live 1 (of_list (v ∷ [])) ∷ []) (live 1 (of_list (v ∷ [])) ∷ []) refl $ fjoin ! $
        fpack ! (List Val) (tagged_with (form_of (shape T)) (form_of (shape T)).payload (T.to (Err r)) (live 1 (of_list (v ∷ [])) ∷ [])) (v ∷ []) $ done !

    -- and what is made of such values is one of its type
    pub made : Lawful 𝓛 X → Lawful 𝓛 (R.the_row X F.the_row)
    made L =
        let T = R.the_type X F.the_row in
        recorded_lawful (Enum (shape T)) T.D T.to T.to_one 𝓛 (Enum-Lawful 𝓛 (shape T) tt ((L, tt), ((EL.lawful F.the_type F'.the_laws 𝓛 tt, tt), tt)))
