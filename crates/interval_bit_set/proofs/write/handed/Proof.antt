-- `handed` meets its contract: a walk of the code by hand, as the check derives no clause on what a slice ends as where a part of it goes out in a
-- Result. Assumes nothing but the logic's own laws.
use Prim.Native.Nat.{ℕ, ◌≤◌, ◌<◌, ◌^◌}
use mathlib.Core.Path.{◌≡◌, refl, ap, sym}
use mathlib.Core.List.{List, [], ◌∷◌}
use lib.ListN.{length, take}
use lib.Dec.{lit<}
use seplogic.Ra.Ura.{Ura}
use mir.Syntax.{named, w64}
use mir.Val.{Val, vint, of_list}
use base.Logic.{SProp, ent, sep}
use base.Fml.{Lft, GName, Share, ftrue, flft, fres}
use base.Stored.{coded_list}
use prog.Memory.{Memory}
use prog.Routine.{Routine}
use prog.Wp.{Env, Calls, Loops, WpFn}
use types.Logic.{Logic, sem}
use contract.Monad.{Fun, fact}
use contract.Running.{tables}
use types.Kit.{‵, raw, ◌⊛◌, some, later, at_ret, ◌$◌, ◌∵◌, !, qed, by, move, keep, use1, use2, split, join, pick, fsplit, fjoin, rewrite, suffices, frame, await, done}
use types.Part.{agg, whole}
use types.Match.{live, vrt, in_variant, by_variants}
use types.Run.{stop, fld, hop, from, addr, lit, of_opd, and_then, no_more, first, exec, returns, enter}
use types.ByLocal.{alloc_all, pass_all, free_all, look_at, look_in_at, get, get_in, get_tag, sets, sets_last, env}
use types.Part.{sub}
use denote.RattleType.{RattleType, owns}
use denote.Laws.{Is}
use denote.Builtin.{u8, usize}
use denote.Enum.Laws as EL
use denote.Follow.{follows, follows_by}
use denote.Array.{Array}
use denote.Ref.{MutBor}
use denote.Slice.{MutSlice, Room, slice_val, mut_slice_vals, mut_slice_Tells}
use denote.Signature.{plain}
use denote.Exit.{yes, no}
use denote.Steps.{owned, nothing, heard}
use denote.Triple.Entry.{on_entry}
use denote.Triple.Walked.{says, Stays, stay_dropped, walk_of, ends_at, Goes-dropped, Goes-spent_slice}
use borrow.Table.Elements.{length-take-le}
use native.Mathlib.Nat.{suc-ne-zero}
use native.Mathlib.Omega.{arith}
use Rattle.std.specs.Prelude.{Ok, Err, IfOk}
use Rattle.std.proofs.raw_atomic.Walks.{proved}
use Rattle.model.specs.declared.Refusal.{Refusal}
use Rattle.model.specs.Answers.{OrRefusal}
use Rattle.model.specs.contracts.Refusal as F
use Rattle.model.proofs.Refusal.TheLaws as F'
use Rattle.std.specs.contracts.result.Result as R
use Rattle.interval_bit_set.proofs.Lending.{at-list, around, given-up, Front-lent, lends-front}
use Rattle.interval_bit_set.proofs.Counted.{Counted, counted, refusal-val, count-fits, is-refusal, Ok-of, Err-of}
use Rattle.interval_bit_set.specs.contracts.write.handed as f
use Rattle.interval_bit_set.proofs.write.handed.Statement.{statement}
use Rattle.interval_bit_set.proofs.write.handed.Code as code

abbrev stayed : Stays f.ended.signature.params f.ended.kept
stayed = (stay_dropped _ no, (stay_dropped _ yes, tt))

module _ {M : Type 1} {𝓤 : Ura M} (𝓛 : Logic 𝓤) (mem : Memory → SProp 𝓤) (run : Routine → Fun 𝓤) (κ : Lft) (q : Share) (b o : ℕ) (γ : GName) (xs : List ℕ) where
  open 𝓛 use {H, A}

  abbrev out : MutBor (List ℕ)
  out = at-list u8 b o γ xs

  abbrev Part : RattleType
  Part = MutSlice (named 0) κ u8

  abbrev bound : OrRefusal ℕ → (walk_of 𝓛 f.ended stayed (f.clauses 𝓛 mem run)).Ghost
  bound filled = (((κ, tt), (q, tt), tt, (out, (filled, tt)), (mut_slice_vals out, (EL.vals Counted counted filled, tt))), tt)

  abbrev Post : OrRefusal ℕ → Val → SProp 𝓤
  Post filled = (walk_of 𝓛 f.ended stayed (f.clauses 𝓛 mem run)).post (bound filled)

  hands-refusal : (r : Refusal) → Is F.the_row r (refusal-val r ∷ [])
      → ent 𝓤 (sep 𝓤 (sem 𝓛 (Part.own_val out (mut_slice_vals out))) (A.lft κ q)) (Post (Err r) (live 1 (of_list (refusal-val r ∷ []))))
  unfolding follows_by
  hands-refusal r is =
      qed 𝓛 (‵ (Part.own_val out (mut_slice_vals out)) ∷ ‵ (flft κ q) ∷ []) ∵
      use1 𝓛 (‵ (fres γ ((coded_list u8.coded).code xs))) (given-up 𝓛 u8 (named 0) κ q b o γ xs (mut_slice_vals out)) $ move ! (1 ∷ []) $
      owned ! F.the_row (Is F.the_row) (EL.makes F.the_type F'.the_plain 𝓛) r _ is $
      use1 𝓛 (‵ ((R.the_row Part F.the_row).own_val (Err r) (live 1 (of_list (refusal-val r ∷ [])) ∷ []))) (Err-of 𝓛 Part r (refusal-val r)) $
      suffices ! _ (ends_at 𝓛 f.ended stayed (f.clauses 𝓛 mem run) (bound (Err r)) (live 1 (of_list (refusal-val r ∷ []))) (Err r) (tt, (tt, tt)) (tt, (tt, tt))) $
      nothing ! $ nothing ! $ fjoin ! $ nothing ! $ fjoin ! $ join ! $ nothing ! $ move ! (2 ∷ 0 ∷ []) $ join ! $ join ! $ frame ! $ says ! (refl, tt) $ done !

  hands-front : (n : ℕ) (within : n ≤ length xs) (δ : GName)
      → ent 𝓤 (Front-lent 𝓛 u8 (named 0) κ q b o γ xs n within δ) (Post (Ok n) (live 0 (of_list (slice_val (b, o) n ∷ []))))
  unfolding follows_by
  hands-front n within δ =
      let count : length (take n xs) ≡ n = length-take-le n xs within in
      let part : MutBor (List ℕ) = at-list u8 b o δ (take n xs) in
      let v : Val = slice_val (b, o) n in
      qed 𝓛 (‵ (Part.own_val part (slice_val (b, o) (length (take n xs)) ∷ [])) ∷ ‵ (flft κ q) ∷ ‵ (follows (Array u8 0) (Array u8 0) γ δ (around 𝓛 u8 (named 0) κ q b o γ xs n)) ∷ []) ∵
      rewrite ! 0 (λ (k : ℕ). ‵ (Part.own_val part (slice_val (b, o) k ∷ []))) count refl $
      use1 𝓛 (‵ ((R.the_row Part F.the_row).own_val (Ok part) (live 0 (of_list (v ∷ [])) ∷ []))) (Ok-of 𝓛 Part part v) $
      suffices ! _ (ends_at 𝓛 f.ended stayed (f.clauses 𝓛 mem run) (bound (Ok n)) (live 0 (of_list (v ∷ []))) (Ok part) (tt, (tt, tt)) (tt, (tt, tt))) $
      nothing ! $ nothing ! $ fjoin ! $ nothing ! $ fjoin ! $ join ! $ nothing ! $ move ! (2 ∷ 0 ∷ []) $ join ! $ join ! $ frame ! $
      says ! (tt, (ap Ok (sym count), ap (λ (k : ℕ). take k xs) (sym count), refl)) $ done !

  module _ (C : Calls 𝓤 H) (Λ : Loops 𝓤 H) where
    walk : (filled : OrRefusal ℕ) → Room u8 (length xs) → Is (R.the_row usize F.the_row) filled (EL.vals Counted counted filled) → IfOk filled (λ n. n ≤ length xs)
        → ent 𝓤 (on_entry 𝓛 f.signature (κ, tt) (q, tt) (out, (filled, tt)) (mut_slice_vals out, (EL.vals Counted counted filled, tt)))
        (WpFn 𝓤 H C Λ code.function (slice_val (b, o) (length xs) ∷ EL.val Counted counted filled ∷ []) (Post filled))
    walk (Err r) room is _ =
        let typed = ((EL.lawful Counted counted 𝓛 tt).typed (Err r) _ is).0 in
        let ris = is-refusal r is in
        qed 𝓛 ((‵ (flft κ q) ⊛ ‵ ftrue) ∷ ‵ (owns (Part ∷ R.the_row usize F.the_row ∷ []) (out, (Err r, tt)) (mut_slice_vals out, (EL.vals Counted counted (Err r), tt))) ∷ []) ∵
        enter ! C Λ code.function (slice_val (b, o) (length xs) ∷ live 1 (of_list (refusal-val r ∷ [])) ∷ []) _ $
        alloc_all ! (λ l. pass_all ! refl ((tt, (tt, (record { fits = room.0 }, tt))), (typed, tt)) $
        let En : Env 𝓤 H = env code.function.locals l in
        split ! $ move ! (2 ∷ []) $ fsplit ! $ move ! (0 ∷ 2 ∷ []) $
        first ! $ by_variants ! 14 (whole !) (get_tag ! (vrt ! refl (fld ! refl (stop !))) (whole !)) tt (
          (λ _.
              sets ! (of_opd ! (get_in ! (vrt ! refl (fld ! refl (stop !))) (in_variant ! 1 0 refl refl (whole !)))) refl ((EL.lawful F.the_type F'.the_laws 𝓛 tt).typed r _ ris).0 $
              sets_last ! (agg ! (and_then ! (lit ! tt) (and_then ! (get ! refl) (no_more !)))) refl typed $
              exec ! C Λ En code.Mir.t-2 (at_ret En (Post (Err r))) $
              sets ! (of_opd ! (get ! refl)) refl typed $
              returns ! (look_at ! 0 refl) $ free_all ! refl $ keep ! (0 ∷ 1 ∷ []) $ by ! (hands-refusal r ris)),
          ((λ e. absurd (suc-ne-zero 0 e)), tt),
        ))
    walk (Ok n) room is within =
        let fits : n < 2 ^ 64 = count-fits n is in
        let count : length (take n xs) ≡ n = length-take-le n xs within in
        let small : Room u8 (length (take n xs)) = (omega (arith, room.0), omega (arith, room.1)) in
        qed 𝓛 ((‵ (flft κ q) ⊛ ‵ ftrue) ∷ ‵ (owns (Part ∷ R.the_row usize F.the_row ∷ []) (out, (Ok n, tt)) (mut_slice_vals out, (EL.vals Counted counted (Ok n), tt))) ∷ []) ∵
        enter ! C Λ code.function (slice_val (b, o) (length xs) ∷ live 0 (of_list (vint w64 n ∷ [])) ∷ []) _ $
        alloc_all ! (λ l. pass_all ! refl ((tt, (tt, (record { fits = room.0 }, tt))), ((tt, (record { fits = lit< tt }, (record { fits = fits }, tt))), tt)) $
        let En : Env 𝓤 H = env code.function.locals l in
        split ! $ move ! (2 ∷ []) $ fsplit ! $ move ! (0 ∷ 2 ∷ []) $
        first ! $ by_variants ! 14 (whole !) (get_tag ! (vrt ! refl (fld ! refl (stop !))) (whole !)) tt (
          (λ e. absurd (suc-ne-zero 0 (sym e))),
          (
            (λ _.
                sets ! (of_opd ! (get_in ! (vrt ! refl (fld ! refl (stop !))) (in_variant ! 0 0 refl refl (whole !)))) refl (tt, record { fits = fits }) $
                sets ! (addr ! (from ! (fld ! refl (hop ! (look_in_at ! 1 (sub ! 0 refl (whole !))) (stop !))))) refl (tt, tt) $
                sets ! (agg ! (and_then ! (get ! refl) (and_then ! (get ! refl) (no_more !)))) refl (tt, (tt, (record { fits = fits }, tt))) $
                sets_last ! (agg ! (and_then ! (lit ! tt) (and_then ! (get ! refl) (no_more !)))) refl (tt, (record { fits = lit< tt }, ((tt, (record { fits = fits }, tt)), tt))) $
                exec ! C Λ En code.Mir.t-2 (at_ret En (Post (Ok n))) $
                sets ! (of_opd ! (get ! refl)) refl (tt, (record { fits = lit< tt }, ((tt, (record { fits = fits }, tt)), tt))) $
                use2 𝓛 (later (some (λ (δ : GName). raw (Front-lent 𝓛 u8 (named 0) κ q b o γ xs n within δ)))) (lends-front 𝓛 u8 (named 0) κ q b o γ xs n within small (mut_slice_vals out)) $ await ! tt $
                pick ! (λ δ. returns ! (look_at ! 0 refl) $ free_all ! refl $ keep ! (0 ∷ []) $ by ! (hands-front n within δ))),
            tt,
          ),
        ))

pub handed_spec : {M : Type 1} → statement M
handed_spec 𝓤 𝓛 𝓜 𝓡 wired =
    let c = f.clauses 𝓛 𝓜.mem 𝓡.returns in
    let 𝓣 = tables 𝓤 𝓛.H 𝓜 𝓡 𝓡.env in
    proved 𝓛 f.ended stayed c 𝓜 𝓡 (Goes-spent_slice 𝓛 1 (0 ∷ []) tt (plain (λ _. u8)), (Goes-dropped 𝓛 1 (plain (λ _. R.the_row usize F.the_row)) yes (λ κs x w. refl), tt))
    f.Key.name code.function (code.unfolded 𝓤 𝓛.H 𝓜 𝓡 wired)
    (λ κs. (mut_slice_vals, (EL.vals Counted counted, tt))) (λ κs. (mut_slice_Tells (named 0) κs.0 u8, (EL.tells Counted counted, tt))) (λ κs qs bounds a g are.
    let x = a.0 in
    qed 𝓛 (raw (on_entry 𝓛 f.signature κs qs a (mut_slice_vals x, (EL.vals Counted counted a.1.0, tt))) ∷ raw (fact 𝓤 (IfOk a.1.0 (λ n. n ≤ length x.now))) ∷ []) ∵
    move ! (1 ∷ []) $ heard ! _ (λ within. by ! (walk 𝓛 𝓜.mem 𝓡.returns κs.0 qs.0 x.ref_ptr.0 x.ref_ptr.1 x.ghost_name x.now 𝓣.C 𝓣.Λ a.1.0 are.0.0.1 are.1.0 within)))
