-- A slice that is lent again for the time of a call and comes back, and the front part of a slice that is handed out: what the whole slice ends
-- as follows what the part ends as. Assumes nothing but the logic's own laws, which each walk is given.
use mathlib.Core.Path.{◌≡◌, refl, sym, ap, subst, ◌∙◌}
use Prim.Native.Nat.{ℕ, ◌≤◌, ◌+◌, ◌-◌}
use native.Mathlib.Omega.{arith}
use mathlib.Core.List.{List, [], ◌∷◌, ◌++◌}
use lib.ListN.{length, take, drop as drop_list, take-append-drop, length-drop, length-append}
use seplogic.Ra.Ura.{Ura}
use base.Fraction.{full_share}
use base.Logic.{SProp, ent, sep, ex}
use base.Stored.{coded_list}
use base.Fml.{Lft, GName, Share, Fml, fsep, flft, fdead, fobs, fauth, fres, fbor, flent, fobor}
use mir.Syntax.{Lifetime}
use mir.Val.{Val}
use types.Logic.{Logic, sem}
use types.Kit.{‵, ◌⊛◌, some, later, ◌$◌, ◌∵◌, !, qed, move, keep, drop, use1, use2, use3, split, split3, pick, fsplit, fsplit3, fjoin, feq_l, feq_i, rewrite, group, frame, await, updating, now, show, done}
use types.SemTy.{cells, Arr, Body}
use types.Mut.{open_ref}
use types.Follow.{takes_part}
use denote.RattleType.{RattleType}
use denote.Shadow.{pure_l, pure_i}
use denote.Memory.{mem}
use denote.Array.{Array}
use denote.Follow.{follows}
use denote.FollowSlice.{heres_id, slice_of}
use denote.Index.{row, whole_in, whole_out, opens_slice, closes_slice}
use denote.Lend.{Held, lends_slice, slice_back}
use denote.Ref.{MutBor}
use denote.Slice.{MutSlice, Room, slice_val, heres, finally, coded_holeys, mut_slice_at}
use borrow.Table.Elements.{at, cut_app, join_app, length-take-le}

module _ (R : RattleType) (b o : ℕ) where
  -- the slice, under the name δ at the list ys
  abbrev pub at-list : GName → List R.Denot → MutBor (List R.Denot)
  at-list δ ys = record { ref_ptr = (b, o); ghost_name = δ; now = ys }

  -- what its holder keeps of it at κ while it is lent again for κ' under the name δ
  abbrev pub Kept-again : Lft → Lft → Share → GName → GName → List R.Denot → Fml
  Kept-again κ κ' q γ δ ys =
      let code = (coded_holeys R).code (heres R ys) in
      fsep (flent κ' (Held R (length ys) b o δ)) (fsep (fobor κ q (Held R (length ys) b o γ)) (fsep (fobs γ code) (fauth γ code)))

module _ {M : Type 1} {𝓤 : Ura M} (𝓛 : Logic 𝓤) (R : RattleType) (ℓ : Lifetime) (κ : Lft) (q : Share) (b o : ℕ) (γ : GName) where
  open 𝓛 use {H, A}

  abbrev pub Slice : Lft → GName → List R.Denot → ℕ → Fml
  Slice κ' δ ys n = (MutSlice ℓ κ' R).own_val (at-list R b o δ ys) (slice_val (b, o) n ∷ [])

  -- ---- for the time of a call
  module _ (κ' : Lft) (ys : List R.Denot) where
    abbrev Lent : GName → SProp 𝓤
    Lent δ = sep 𝓤 (sem 𝓛 (Slice κ' δ ys (length ys))) (sem 𝓛 (Kept-again R b o κ κ' q γ δ ys))

    pub lends-again : ent 𝓤 (sep 𝓤 (sem 𝓛 (Slice κ γ ys (length ys))) (A.lft κ q)) (H.⇛ (ex 𝓤 Lent))
    lends-again =
        qed 𝓛 (‵ (Slice κ γ ys (length ys)) ∷ ‵ (flft κ q) ∷ []) ∵ updating ! $ fsplit ! $
        pure_l ! (mut_slice_at R (at-list R b o γ ys) (slice_val (b, o) (length ys) ∷ [])) (λ p. fsplit ! $ opens_slice ! tt R ys b o $
        use1 𝓛 (‵ (cells (mem R) ys b o)) (whole_in 𝓛 R ys b o) $
        use1 𝓛 (later (some (λ (δ : GName). ‵ (Slice κ' δ ys (length ys)) ⊛ ‵ (flent κ' (Held R (length ys) b o δ))))) (lends_slice 𝓛 R ℓ κ' ys b o (p.1)) $
        await ! tt $ pick ! (λ δ. split ! $
        -- [the new slice; the lender's part at κ'; the open borrow at κ; both halves of the name]
        now ! $ show ! Lent δ $ frame ! $ move ! (2 ∷ 3 ∷ []) $ fjoin ! $ move ! (2 ∷ 0 ∷ []) $ fjoin ! $ move ! (1 ∷ 0 ∷ []) $ fjoin ! $ done !))

    -- it comes back as its borrower left it, of the same length
    pub comes-back : (δ : GName) (zs : List R.Denot) → Room R (length ys) → length zs ≡ length ys
        → ent 𝓤 (sep 𝓤 (A.dead κ') (sep 𝓤 (sem 𝓛 (Kept-again R b o κ κ' q γ δ ys)) (sem 𝓛 (finally R δ zs)))) (H.⇛ (sep 𝓤 (sem 𝓛 (Slice κ γ zs (length ys))) (A.lft κ q)))
    comes-back δ zs room e =
        qed 𝓛 (‵ (fdead κ') ∷ ‵ (Kept-again R b o κ κ' q γ δ ys) ∷ ‵ (finally R δ zs) ∷ []) ∵ updating ! $ move ! (1 ∷ []) $ fsplit ! $ move ! (2 ∷ 0 ∷ 3 ∷ []) $
        use3 𝓛 (later (‵ ((Arr (mem R) (length ys)).own_at zs b o))) (slice_back 𝓛 R κ' δ zs (length ys) b o) $ await ! tt $ fsplit ! $ drop ! $
        use1 𝓛 (‵ (row R full_share zs b o)) (whole_out 𝓛 R zs b o) $
        move ! (1 ∷ []) $ fsplit ! $ move ! (1 ∷ []) $ fsplit ! $ move ! (3 ∷ 2 ∷ 0 ∷ 1 ∷ []) $ closes_slice ! tt R ys zs e b o $ now ! $
        fjoin ! $ pure_i ! (mut_slice_at R (at-list R b o γ zs) (slice_val (b, o) (length ys) ∷ [])) (tt, (tt, tt)) (ap (λ (k : ℕ). slice_val (b, o) k ∷ []) (sym e), subst (Room R) (sym e) room) $
        fjoin ! $ done !

  -- ---- for good
  module _ (xs : List R.Denot) where
    -- what the slice ends as, if the m elements in front end as ws
    abbrev pub around : ℕ → List R.Denot → List R.Denot
    around m ws = ws ++ drop_list m xs

    -- one that nobody holds on to ends as it is
    pub given-up : (vs : List Val) → ent 𝓤 (sem 𝓛 ((MutSlice ℓ κ R).own_val (at-list R b o γ xs) vs)) (A.res γ ((coded_list R.coded).code xs))
    given-up vs =
        qed 𝓛 (‵ ((MutSlice ℓ κ R).own_val (at-list R b o γ xs) vs) ∷ []) ∵ fsplit3 ! $ drop ! $
        rewrite ! 0 (λ (l : List R.Denot). ‵ (fobs γ ((coded_list R.coded).code l))) (heres_id R xs) refl $
        use1 𝓛 (‵ (fres γ ((coded_list R.coded).code xs))) (𝓛.names.obs-res γ ((coded_list R.coded).code xs)) $ keep ! (0 ∷ []) $ done !

    module _ (m : ℕ) (within : m ≤ length xs) where
      abbrev front : List R.Denot
      front = take m xs

      abbrev Back : Fml
      Back = cells (mem R) (drop_list m xs) b (at o (mem R).size (length front))

      put : (ws : List R.Denot) → ent 𝓤 (sep 𝓤 (sem 𝓛 ((Arr (mem R) (length front)).own_at ws b o)) (sem 𝓛 Back)) (sem 𝓛 ((Arr (mem R) (length xs)).own_at (around m ws) b o))
      put ws =
          qed 𝓛 (‵ ((Arr (mem R) (length front)).own_at ws b o) ∷ ‵ Back ∷ []) ∵ fsplit ! $ feq_l ! (λ e.
          let count : length ws ≡ m = e ∙ length-take-le m xs within in
          let rest : length (drop_list m xs) ≡ length xs - m = length-drop m xs in
          let both : length (around m ws) ≡ length ws + length (drop_list m xs) = length-append ws (drop_list m xs) in
          rewrite ! 1 (λ (k : ℕ). ‵ (cells (mem R) (drop_list m xs) b (at o (mem R).size k))) (sym e) refl $
          use2 𝓛 (‵ (cells (mem R) (around m ws) b o)) (join_app 𝓛 (mem R) ws (drop_list m xs) b o) $
          feq_i ! ℕ (length (around m ws)) (length xs) (omega arith) $ fjoin ! $ done !)

      abbrev pub Front-lent : GName → SProp 𝓤
      Front-lent δ = sep 𝓤 (sem 𝓛 (Slice κ δ front (length front))) (sep 𝓤 (A.lft κ q) (sem 𝓛 (follows (Array R 0) (Array R 0) γ δ (around m))))

      -- the front is handed out under a new name, and what the slice ends as follows it
      pub lends-front : Room R (length front) → (vs : List Val)
          → ent 𝓤 (sep 𝓤 (sem 𝓛 ((MutSlice ℓ κ R).own_val (at-list R b o γ xs) vs)) (A.lft κ q)) (H.⇛ (ex 𝓤 Front-lent))
      lends-front room vs =
          let code = (coded_list R.coded).code in
          qed 𝓛 (‵ ((MutSlice ℓ κ R).own_val (at-list R b o γ xs) vs) ∷ ‵ (flft κ q) ∷ []) ∵ updating ! $ fsplit3 ! $ drop ! $
          rewrite ! 0 (λ (l : List R.Denot). ‵ (fobs γ (code l))) (heres_id R xs) refl $ open_ref ! tt (Arr (mem R) (length xs)) {b = b} {o = o} $ fsplit ! $ drop ! $
          rewrite ! 0 (λ (l : List R.Denot). ‵ (cells (mem R) l b o)) (sym (take-append-drop m xs)) refl $
          use1 𝓛 (‵ (cells (mem R) front b o) ⊛ ‵ Back) (cut_app 𝓛 (mem R) front (drop_list m xs) b o) $ split ! $
          feq_i ! ℕ (length front) (length front) refl $ fjoin ! $ move ! (2 ∷ 3 ∷ 4 ∷ 0 ∷ 1 ∷ []) $ group ! 5 $
          use1 𝓛 (later (some (λ (δ : GName). ‵ (fobs δ (code front)) ⊛ ‵ (fbor κ (Body (Arr (mem R) (length front)) b o δ)) ⊛ ‵ (flft κ q) ⊛ ‵ (follows (Array R 0) (Array R 0) γ δ (around m)))))
          (takes_part 𝓛 (Arr (mem R) (length xs)) (Arr (mem R) (length front)) (around m) κ q b o b o γ (sem 𝓛 Back) put (code xs) (code xs) front) $
          await ! tt $ pick ! (λ δ. split3 ! $ use2 𝓛 (‵ (Slice κ δ front (length front))) (slice_of 𝓛 R ℓ κ b o δ front room) $ now ! $ show ! Front-lent δ $ done !)
