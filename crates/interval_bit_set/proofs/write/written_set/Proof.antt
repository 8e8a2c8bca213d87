-- `written_set` meets its contract: a walk of the code by hand. The slice is lent again to `write_set` and comes back as that left it, and then goes
-- to `handed` for good. All that is known of the two is their contracts. Assumes nothing but the logic's own laws.
use Prim.Native.Nat.{ℕ, ◌<◌, ◌^◌}
use mathlib.Core.Path.{refl, ap, subst}
use mathlib.Core.List.{List, [], ◌∷◌, ◌++◌}
use lib.ListN.{length, drop as behind}
use seplogic.Ra.Ura.{Ura}
use base.Fraction.{full_share}
use base.Logic.{SProp, ent, sep, emp, via, fst∗, id⊢}
use base.Fml.{Lft, GName, Share, Fml, ftrue, flft}
use mir.Syntax.{named, w64}
use mir.Val.{Val, vint}
use prog.Model.{Model}
use prog.Wired.{Wired}
use prog.Wp.{WpFn}
use types.Logic.{Logic, sem}
use types.Kit.{‵, raw, ◌⊛◌, some, later, ◌$◌, ◌∵◌, !, qed, by, move, keep, drop, use1, use2, use3, split, join, pick, fsplit, fjoin, feq_l, rewrite, suffices, frame, await, done}
use types.Part.{agg, whole, sub}
use types.Run.{stop, fld, hop, from, addr, and_then, no_more, returns, enter}
use types.ByLocal.{alloc_all, pass_all, free_all, look_at, look_in_at, get, get_in, sets, lands_as}
use types.Tokens.{lft_new, lft_end}
use contract.Monad.{fact}
use contract.Running.{Running, tables}
use denote.Builtin.{u8, u64}
use denote.Exit.{yes, no}
use denote.RattleType.{RattleType, owns}
use denote.Laws.{Is, shows}
use denote.Plain.{uint_Makes, uint_vals, uint_Tells}
use denote.Enum.Laws as EL
use denote.Ref.{Bor, MutBor}
use denote.Slice.{ShrSlice, MutSlice, Room, slice_val, shr_slice_vals, shr_slice_Tells, shr_slice_Lawful, mut_slice_vals, mut_slice_Tells, mut_slice_Lawful}
use denote.Signature.{plain, shr_slice_of}
use denote.Steps.{only, owned, peeks, heard, nothing}
use denote.Triple.Call.{calls_at}
use denote.Triple.Clauses.{lasts}
use denote.Triple.Entry.{on_entry}
use denote.Triple.Spec.{triple_of}
use denote.Triple.Statement.{Contract}
use denote.Triple.Table.{framed}
use denote.Triple.Walked.{Stays, stay_dropped, walk_of, ends_at, Goes-dropped, Goes-spent_slice}
use Rattle.std.proofs.raw_atomic.Walks.{proved}
use Rattle.model.specs.Answers.{OrRefusal}
use Rattle.model.specs.declared.Edition.{Edition}
use Rattle.model.specs.Call.{Call, Answer}
use Rattle.interval_bit_set.specs.Met.{outcome_of}
use Rattle.interval_bit_set.specs.Out.{WritesOut}
use Rattle.model.specs.contracts.Edition as E
use Rattle.model.proofs.Edition.TheLaws as E'
use Rattle.model.specs.contracts.Refusal as F
use Rattle.std.specs.contracts.result.Result as R
use Rattle.interval_bit_set.specs.Parts.{front_of, count_of, Part, Handed}
use Rattle.interval_bit_set.proofs.Handing.{write-set-puts, part-within, part-refused, part-filled}
use Rattle.interval_bit_set.proofs.Lending.{at-list, Slice, Kept-again, lends-again, comes-back}
use Rattle.interval_bit_set.proofs.Counted.{Counted, counted, made}
use Rattle.interval_bit_set.proofs.HandedOn.{Row, Ends, ends-told, says-two, Contracted, to-handed, goes-handed}
use Rattle.interval_bit_set.specs.contracts.write.handed as h
use Rattle.interval_bit_set.proofs.write.handed.Met as h'
use Rattle.interval_bit_set.specs.contracts.write.write_set as g
use Rattle.interval_bit_set.proofs.write.write_set.Met as g'
use Rattle.interval_bit_set.specs.contracts.write.written_set as f
use Rattle.interval_bit_set.proofs.write.written_set.Statement.{statement}
use Rattle.interval_bit_set.proofs.write.written_set.Code as code

abbrev stayed : Stays f.ended.signature.params f.ended.kept
stayed = (stay_dropped _ yes, (stay_dropped _ yes, (stay_dropped _ yes, (stay_dropped _ no, tt))))

module _ {M : Type 1} (𝓤 : Ura M) (𝓛 : Logic 𝓤) (𝓜 : Model 𝓤 𝓛.H) (𝓡 : Running 𝓤 𝓛.H 𝓜) (wired : Wired 𝓡.env code.code)
    (κ κ' : Lft) (q q' : Share) (w : Bor (List ℕ)) (i : ℕ) (e : Edition) (b o : ℕ) (γ : GName) (ys : List ℕ)
    (i-fits : i < 2 ^ 64) (e-is : Is E.the_row e (EL.vals E.the_type E'.the_laws e)) (room : Room u8 (length ys)) where
  open 𝓛 use {H, A}

  abbrev Arg : Type 0
  Arg = Bor (List ℕ) × (ℕ × (Edition × (MutBor (List ℕ) × Unit {0})))

  abbrev vals : List Val × (List Val × (List Val × (List Val × Unit {0})))
  vals = (shr_slice_vals w, (vint w64 i ∷ [], (EL.vals E.the_type E'.the_laws e, (slice_val (b, o) (length ys) ∷ [], tt))))

  -- the arguments, with the slice under the name δ
  abbrev args : GName → Arg
  args δ = (w, (i, (e, (at-list u8 b o δ ys, tt))))

  abbrev bound : (walk_of 𝓛 f.ended stayed (f.clauses 𝓛 𝓜.mem 𝓡.returns)).Ghost
  bound = (((κ, (κ', tt)), (q, (q', tt)), tt, args γ, vals), tt)

  abbrev Post : Val → SProp 𝓤
  Post = (walk_of 𝓛 f.ended stayed (f.clauses 𝓛 𝓜.mem 𝓡.returns)).post bound

  abbrev answer : Answer
  answer = (outcome_of w.now i (Call.write_set e ys)).answer

  abbrev Out : RattleType
  Out = R.the_row (MutSlice (named 1) κ' u8) F.the_row

  -- ---- the call of `write_set`
  abbrev Write : Contract 𝓤
  Write = triple_of 𝓛 g.signature (g.spec 𝓛 𝓜.mem 𝓡.returns)

  abbrev to-write : ℕ → GName → Write.Ghost
  to-write ν δ = (((κ, (ν ∷ [], tt)), (q, (full_share, tt)), tt, args δ, vals), tt)

  abbrev Words : Fml
  Words = (ShrSlice (named 0) κ u64).own_val w (shr_slice_vals w)

  goes-write : (ν : ℕ) (δ : GName)
      → ent 𝓤 (sep 𝓤 (sep 𝓤 (A.lft κ q) (A.lft (ν ∷ []) full_share)) (sep 𝓤 (sem 𝓛 Words) (sem 𝓛 (Slice 𝓛 u8 (named 1) κ' q' b o γ (ν ∷ []) δ ys (length ys))))) (Write.pre (to-write ν δ))
  goes-write ν δ =
      qed 𝓛 ((‵ (flft κ q) ⊛ ‵ (flft (ν ∷ []) full_share)) ∷ ‵ Words ∷ ‵ (Slice 𝓛 u8 (named 1) κ' q' b o γ (ν ∷ []) δ ys (length ys)) ∷ []) ∵ split ! $
      nothing ! $ move ! (2 ∷ 0 ∷ []) $ join ! $ move ! (1 ∷ 0 ∷ []) $ join ! $ nothing ! $ move ! (3 ∷ 0 ∷ []) $ fjoin ! $
      owned ! E.the_row (Is E.the_row) (EL.makes E.the_type E'.the_plain 𝓛) e _ e-is $ fjoin ! $
      owned ! u64 (Is u64) (uint_Makes 𝓛 w64) i _ (refl, i-fits) $ fjoin ! $ move ! (2 ∷ 0 ∷ []) $ fjoin ! $ move ! (1 ∷ 0 ∷ []) $ join ! $ frame ! $ done !

  -- ---- what is handed back, where `write_set` answered r and left the slice l
  module _ (r : OrRefusal ℕ) (l : List ℕ) (wrote : WritesOut (Call.write_set e) w.now i ys r l) where
    exits : (t : Part) (v : Val) → Handed r l (b, o) t
        → ent 𝓤 (sep 𝓤 (sem 𝓛 (Out.own_val t (v ∷ []))) (sep 𝓤 (sem 𝓛 (Ends γ (b, o) l t (behind (count_of r) l) l)) (sep 𝓤 (sep 𝓤 (A.lft κ' q') (sem 𝓛 ftrue)) (A.lft κ q)))) (Post v)
    exits t v told =
        let puts = write-set-puts ys e in
        qed 𝓛 (‵ (Out.own_val t (v ∷ [])) ∷ ‵ (Ends γ (b, o) l t (behind (count_of r) l) l) ∷ (‵ (flft κ' q') ⊛ ‵ ftrue) ∷ ‵ (flft κ q) ∷ []) ∵ move ! (1 ∷ []) $
        use1 𝓛 (‵ (Ends γ (b, o) ys t (behind (length (front_of answer)) ys) ys)) (ends-told 𝓛 puts wrote γ (b, o) t told) $
        suffices ! _ (ends_at 𝓛 f.ended stayed (f.clauses 𝓛 𝓜.mem 𝓡.returns) bound v t (tt, (tt, (tt, (tt, tt)))) (tt, (tt, (tt, (tt, tt))))) $
        move ! (1 ∷ []) $ nothing ! $ nothing ! $ fjoin ! $ nothing ! $ fjoin ! $ nothing ! $ fjoin ! $ nothing ! $ fjoin ! $ join ! $
        move ! (3 ∷ 2 ∷ []) $ join ! $ join ! $ frame ! $ says-two ! (part-refused puts wrote (b, o) t told, part-filled puts wrote (b, o) t told) $ done !

  walk : Is (ShrSlice (named 0) κ u64) w (shr_slice_vals w)
      → ent 𝓤 (on_entry 𝓛 f.signature (κ, (κ', tt)) (q, (q', tt)) (args γ) vals)
      (WpFn 𝓤 H (tables 𝓤 H 𝓜 𝓡 𝓡.env).C (tables 𝓤 H 𝓜 𝓡 𝓡.env).Λ code.function (vals.0 ++ (vals.1.0 ++ (vals.1.1.0 ++ (vals.1.1.1.0 ++ [])))) Post)
  walk w-is =
      qed 𝓛 ((‵ (flft κ q) ⊛ ‵ (flft κ' q') ⊛ ‵ ftrue) ∷ ‵ (owns (ShrSlice (named 0) κ u64 ∷ u64 ∷ E.the_row ∷ MutSlice (named 1) κ' u8 ∷ []) (args γ) vals) ∷ []) ∵
      enter ! _ _ _ _ _ $
      alloc_all ! (λ l. pass_all ! refl (
        ((shr_slice_Lawful 𝓛 (named 0) κ u64).typed w _ w-is).0,
        (
          (tt, record { fits = i-fits }),
          (((EL.lawful E.the_type E'.the_laws 𝓛 tt).typed e _ e-is).0, ((tt, (tt, (record { fits = room.0 }, tt))), tt)),
        ),
      ) $
      sets ! (addr ! (from ! (fld ! refl (hop ! (look_in_at ! 4 (sub ! 0 refl (whole !))) (stop !))))) refl (tt, tt) $
      sets ! (agg ! (and_then ! (get ! refl) (and_then ! (get_in ! (fld ! refl (stop !)) (sub ! 1 refl (whole !))) (no_more !)))) refl (tt, (tt, (record { fits = room.0 }, tt))) $
      split ! $ move ! (1 ∷ []) $ split ! $ move ! (3 ∷ []) $ fsplit ! $ move ! (1 ∷ []) $ fsplit ! $ drop ! $ fsplit ! $ drop ! $ fsplit ! $
      -- [the slice; true; the words; the slice's token; true; the words' token]
      lft_new ! tt (λ ν. move ! (1 ∷ 4 ∷ []) $
      use2 𝓛 (later (some (λ (δ : GName). ‵ (Slice 𝓛 u8 (named 1) κ' q' b o γ (ν ∷ []) δ ys (length ys)) ⊛ ‵ (Kept-again u8 b o κ' (ν ∷ []) q' γ δ ys))))
      (lends-again 𝓛 u8 (named 1) κ' q' b o γ (ν ∷ []) ys) $ await ! tt $ pick ! (λ δ. split ! $
      -- [the loan; what is kept of the slice; the token of ν; true; the words; true; the words' token]
      move ! (6 ∷ 2 ∷ []) $ join ! $ move ! (0 ∷ 4 ∷ 1 ∷ []) $ use3 𝓛 (raw (Write.pre (to-write ν δ))) (goes-write ν δ) $
      calls_at ! (framed 𝓤 H 𝓜 (tables 𝓤 H 𝓜 𝓡 𝓡.env)) Write (g'.met 𝓤 𝓛 𝓜 𝓡 (code.calls-interval_bit_set::write::write_set 𝓡.env wired)) (to-write ν δ)
      (and_then ! (get ! refl) (and_then ! (get ! refl) (and_then ! (get ! refl) (and_then ! (get ! refl) (no_more !))))) (λ u.
      use1 𝓛 (later (some (λ (r : OrRefusal ℕ). ((‵ (flft κ q) ⊛ ‵ (flft (ν ∷ []) full_share) ⊛ ‵ ftrue) ⊛ ‵ (Row.own_val r (u ∷ []))) ⊛
      some (λ (zs : Unit {0} × (Unit {0} × (Unit {0} × (List ℕ × Unit {0})))). ‵ (lasts g.ended (κ, (ν ∷ [], tt)) (args δ) zs) ⊛
      raw (fact 𝓤 (WritesOut (Call.write_set e) w.now i ys r zs.1.1.1.0)))))) (id⊢ 𝓤 _) $
      await ! tt $ pick ! (λ r. split ! $ split ! $ split ! $ move ! (1 ∷ []) $ split ! $ lft_end ! tt $
      -- [ν is over; true; the words' token; the answer; what the slice ended as; what is kept of the slice]
      move ! (4 ∷ []) $ pick ! (λ zs. split ! $ move ! (1 ∷ []) $ heard ! _ (λ wrote. let ls = zs.1.1.1.0 in
      fsplit ! $ drop ! $ fsplit ! $ drop ! $ fsplit ! $ drop ! $ fsplit ! $ fsplit ! $ fsplit ! $ move ! (1 ∷ []) $ feq_l ! (λ same.
      move ! (3 ∷ 7 ∷ 0 ∷ []) $ use3 𝓛 (later (‵ (Slice 𝓛 u8 (named 1) κ' q' b o γ κ' γ ls (length ys)) ⊛ ‵ (flft κ' q')))
      (comes-back 𝓛 u8 (named 1) κ' q' b o γ (ν ∷ []) ys δ ls room same) $ await ! tt $ split ! $
      -- [the slice; its token; nothing, three times; the words' token; the answer]
      move ! (6 ∷ []) $ peeks ! Row (Is Row) (shows 𝓛 Row) r (u ∷ []) (λ is. let tells = EL.tells Counted counted r (u ∷ []) is in
      rewrite ! 0 (λ (z : List Val). ‵ (Row.own_val r z)) tells refl $
      lands_as ! (ap only tells) refl ((EL.lawful Counted counted 𝓛 tt).typed r _ (subst (Is Row r) tells is)).0 $
      sets ! (addr ! (from ! (fld ! refl (hop ! (look_in_at ! 4 (sub ! 0 refl (whole !))) (stop !))))) refl (tt, tt) $
      sets ! (agg ! (and_then ! (get ! refl) (and_then ! (get_in ! (fld ! refl (stop !)) (sub ! 1 refl (whole !))) (no_more !)))) refl (tt, (tt, (record { fits = room.0 }, tt))) $
      let N = Contracted 𝓛 𝓜.mem 𝓡.returns κ' q' b o γ ls (length ys) r in
      let z : N.Ghost = to-handed 𝓛 𝓜.mem 𝓡.returns κ' q' b o γ ls (length ys) r in
      move ! (2 ∷ 1 ∷ 0 ∷ []) $ use3 𝓛 (raw (N.pre z)) (goes-handed 𝓛 𝓜.mem 𝓡.returns κ' q' b o γ ls (length ys) r (part-within (write-set-puts ys e) wrote)) $
      calls_at ! (framed 𝓤 H 𝓜 (tables 𝓤 H 𝓜 𝓡 𝓡.env)) N (h'.met 𝓤 𝓛 𝓜 𝓡 (code.calls-interval_bit_set::write::handed 𝓡.env wired)) z
      (and_then ! (get ! refl) (and_then ! (get ! refl) (no_more !))) (λ v.
      use1 𝓛 (later (some (λ (t : Part). ((‵ (flft κ' q') ⊛ ‵ ftrue) ⊛ ‵ (Out.own_val t (v ∷ []))) ⊛
      some (λ (ws : Unit {0} × (Unit {0} × Unit {0})). ‵ (lasts h.ended (κ', tt) z.0.3 ws) ⊛
      ‵ (Ends γ (b, o) ls t (behind (count_of r) ls) ls) ⊛ raw (fact 𝓤 (Handed r ls (b, o) t)))))) (id⊢ 𝓤 _) $
      await ! tt $ pick ! (λ t. split ! $ split ! $ move ! (2 ∷ []) $ pick ! (λ ws. split ! $ drop ! $ split ! $ move ! (1 ∷ []) $ heard ! _ (λ told.
      -- [what the slice ends as; its token; the result; nothing, three times; the words' token]
      move ! (2 ∷ []) $ peeks ! Out (Is Out) (shows 𝓛 Out) t (v ∷ []) (λ fits.
      lands_as ! refl refl ((made 𝓛 (MutSlice (named 1) κ' u8) (mut_slice_Lawful 𝓛 (named 1) κ' u8)).typed t (v ∷ []) fits).0 $
      returns ! (look_at ! 0 refl) $ free_all ! refl $ keep ! (0 ∷ 1 ∷ 2 ∷ 6 ∷ []) $ by ! (exits r ls wrote t v told)))))))))))))))

pub written_set_spec : {M : Type 1} → statement M
written_set_spec 𝓤 𝓛 𝓜 𝓡 wired =
    proved 𝓛 f.ended stayed (f.clauses 𝓛 𝓜.mem 𝓡.returns) 𝓜 𝓡 (
      Goes-dropped 𝓛 2 (shr_slice_of (0 ∷ []) tt (plain (λ _. u64))) yes (λ κs x w. refl),
      (
        Goes-dropped 𝓛 2 (plain (λ _. u64)) yes (λ κs x w. refl),
        (Goes-dropped 𝓛 2 (plain (λ _. E.the_row)) yes (λ κs x w. refl), (Goes-spent_slice 𝓛 2 (1 ∷ []) tt (plain (λ _. u8)), tt)),
      ),
    )
    f.Key.name code.function (code.unfolded 𝓤 𝓛.H 𝓜 𝓡 wired)
    (λ κs. (shr_slice_vals, (uint_vals w64, (EL.vals E.the_type E'.the_laws, (mut_slice_vals, tt)))))
    (λ κs. (shr_slice_Tells (named 0) κs.0 u64, (uint_Tells w64, (EL.tells E.the_type E'.the_laws, (mut_slice_Tells (named 1) κs.1.0 u8, tt)))))
    (λ κs qs bounds a g are. let x = a.1.1.1.0 in
    via 𝓤 _ (fst∗ 𝓤 _ (emp 𝓤)) (walk 𝓤 𝓛 𝓜 𝓡 wired κs.0 κs.1.0 qs.0 qs.1.0 a.0 a.1.0 a.1.1.0 x.ref_ptr.0 x.ref_ptr.1 x.ghost_name x.now
    are.1.0.1 are.1.1.0 are.1.1.1.0.0.1 are.0))
