-- A `&mut [T]` is lent on for one call, as a `&[T]` or as a `&mut [T]` again, and comes back. Assumes `Logic`.
use mathlib.Core.Path.{◌≡◌, refl, sym, ◌∙◌, ap, subst}
use Prim.Native.Nat.{ℕ}
use lib.ListN.{length}
use mathlib.Core.List.{List, [], ◌∷◌}
use seplogic.Ra.Ura.{Ura}
use base.Fraction.{full_share}
use mir.Syntax.{Lifetime}
use mir.Val.{Val}
use base.Fml.{Lft, GName, Share, Fml, Incl-refl, fsep, flft, flent, fbor, fobor, fobs, fauth}
use types.Logic.{Logic}
use types.Kit.{Item, ‵, some, later, ◌⊛◌, Goal, Soaks, Seq, Step, step, ◌$◌, move, drop, use1, use2, use3, rewrite, split, pick, fsplit, fjoin, feq_i, await}
use types.Tokens.{lft_new, lft_end, lent_back}
use types.Share.{arr_parts}
use denote.RattleType.{RattleType}
use denote.Shadow.{pure_l, pure_i}
use denote.Memory.{mem, shares}
use types.SemTy.{cells, Arr}
use denote.Ref.{MutBor, at_last}
use denote.Slice.{MutSlice, ShrSlice, Room, slice_val, finally, heres, mut_slice_at, mut_slice_vals, coded_holeys}
use denote.Shares.{Shares}
use denote.Lend.{Held, lends_shr_slice, lends_slice, slice_back}
use denote.Index.{row as row_of, whole_in, whole_out, opens_slice, closes_slice}

-- ---- a `&mut [T]` is lent as a `&[T]` for one call, where T has the law by which a `&` to it is made
abbrev pub Shared : (R : RattleType) → Lft → Lft → Share → MutBor (List R.Denot) → Fml
Shared R κ κ' q x = fsep (flent κ' ((arr_parts (shares R) (length x.now)).part full_share x.now x.ref_ptr.0 x.ref_ptr.1))
    (fsep (fobor κ q (Held R (length x.now) x.ref_ptr.0 x.ref_ptr.1 x.ghost_name))
    (fsep (fobs x.ghost_name ((coded_holeys R).code (heres R x.now))) (fauth x.ghost_name ((coded_holeys R).code (heres R x.now)))))

module _ {M : Type 1} {𝓤 : Ura M} {𝓛 : Logic 𝓤} {K : Type 0} {Γ : List (Item 𝓤)} {G : Goal 𝓤 𝓛.H} where
  pub lends_shared : K → Soaks G → (R : RattleType) → ((l : Lft) → Shares 𝓛 R l) → (ℓ ℓ' : Lifetime) {κ : Lft} {q : Share} (x : MutBor (List R.Denot))
      → ((ν : ℕ)
      → Seq K 𝓛 (‵ (flft (ν ∷ []) full_share) ∷ ‵ ((ShrSlice ℓ' (ν ∷ []) R).own_val (record { ref_ptr = x.ref_ptr; now = x.now }) (mut_slice_vals x))
      ∷ ‵ (Shared R κ (ν ∷ []) q x) ∷ Γ) G)
      → Seq K 𝓛 (‵ ((MutSlice ℓ κ R).own_val x (mut_slice_vals x)) ∷ ‵ (flft κ q) ∷ Γ) G
  lends_shared t z R shares_r ℓ ℓ' {κ} {q} x k =
      lft_new t z (λ ν. move t (1 ∷ 2 ∷ []) $ fsplit t $ pure_l t (mut_slice_at R x (mut_slice_vals x)) (λ p. fsplit t $
      opens_slice t z R x.now x.ref_ptr.0 x.ref_ptr.1 $
      feq_i t ℕ (length x.now) (length x.now) refl $ fjoin t $
      -- [the elements; the open borrow; obs; auth; ν's token]
      move t (0 ∷ 4 ∷ []) $
      use2 𝓛 (later ((‵ ((ShrSlice ℓ' (ν ∷ []) R).own_val (record { ref_ptr = x.ref_ptr; now = x.now }) (mut_slice_vals x)) ⊛ ‵
      (flent (ν ∷ []) ((arr_parts (shares R) (length x.now)).part full_share x.now x.ref_ptr.0 x.ref_ptr.1))) ⊛ ‵ (flft (ν ∷ []) full_share)))
      (lends_shr_slice 𝓛 R ℓ' (ν ∷ []) full_share x.now x.ref_ptr.0 x.ref_ptr.1 p.1 (ν ∷ []) (shares_r (ν ∷ [])) ((ν ∷ [], full_share) ∷ [])
      (Incl-refl (ν ∷ [])) (Incl-refl (ν ∷ []))) $ await t z $ split t $ split t $
      -- [the `&[T]`; the lender's part; ν's token; the open borrow; obs; auth]
      move t (4 ∷ 5 ∷ []) $ fjoin t $ move t (4 ∷ 0 ∷ []) $ fjoin t $ move t (2 ∷ 0 ∷ []) $ fjoin t $ move t (2 ∷ 1 ∷ 0 ∷ []) $ k ν))

  pub back_from_shared : K → Soaks G → (R : RattleType) (ℓ : Lifetime) {κ : Lft} {q : Share} {ν : ℕ} (x : MutBor (List R.Denot))
      → Room R (length x.now)
      → Step K 𝓛 (‵ ((MutSlice ℓ κ R).own_val x (mut_slice_vals x)) ∷ ‵ (flft κ q) ∷ Γ) G (‵ (flft (ν ∷ []) full_share) ∷ ‵ (Shared R κ (ν ∷ []) q x) ∷ Γ) G
  back_from_shared t z R ℓ x room = step (λ s. lft_end t z $ move t (1 ∷ []) $ fsplit t $ move t (2 ∷ 0 ∷ []) $ lent_back t z $ fsplit t $ drop t $
      move t (1 ∷ []) $ fsplit t $ move t (1 ∷ []) $ fsplit t $
      -- [obs; auth; the open borrow; the elements]
      move t (3 ∷ 2 ∷ 0 ∷ 1 ∷ []) $ closes_slice t z R x.now x.now refl x.ref_ptr.0 x.ref_ptr.1 $ fjoin t $
      pure_i t (mut_slice_at R x (mut_slice_vals x)) (tt, (tt, tt)) (refl, room) $ fjoin t $ s)

-- ---- what a `&mut [T]` leaves that was given away for good: its last state is said, and its borrow is there, closed
abbrev pub Given : (R : RattleType) → Lft → MutBor (List R.Denot) → List R.Denot → Fml
Given R κ x zs = fsep (finally R x.ghost_name zs) (fbor κ (Held R (length x.now) x.ref_ptr.0 x.ref_ptr.1 x.ghost_name))

-- ---- a `&mut [T]` is lent again, for one call, and comes back at the list that the call left. x is the reference as it was passed, and ys what it holds now
abbrev Again : (R : RattleType) → Lft → Lft → Share → MutBor (List R.Denot) → List R.Denot → GName → Fml
Again R κ κ' q x ys δ =
    fsep (flent κ' (Held R (length ys) x.ref_ptr.0 x.ref_ptr.1 δ)) (fsep (fobor κ q (Held R (length ys) x.ref_ptr.0 x.ref_ptr.1 x.ghost_name))
    (fsep (fobs x.ghost_name ((coded_holeys R).code (heres R ys))) (fauth x.ghost_name ((coded_holeys R).code (heres R ys)))))

module _ {M : Type 1} {𝓤 : Ura M} {𝓛 : Logic 𝓤} {K : Type 0} {Γ : List (Item 𝓤)} {G : Goal 𝓤 𝓛.H} where
  pub lends_again : K → Soaks G → (R : RattleType) (ℓ ℓ' : Lifetime) {κ : Lft} {q : Share} (x : MutBor (List R.Denot)) (ys : List R.Denot)
      → ((ν : ℕ) (δ : GName)
      → Seq K 𝓛 (‵ (flft (ν ∷ []) full_share) ∷ ‵ ((MutSlice ℓ' (ν ∷ []) R).own_val (record { ref_ptr = x.ref_ptr; ghost_name = δ; now = ys }) (mut_slice_vals x))
      ∷ ‵ (Again R κ (ν ∷ []) q x ys δ) ∷ Γ) G)
      → Seq K 𝓛 (‵ ((MutSlice ℓ κ R).own_val (at_last x ys) (mut_slice_vals x)) ∷ ‵ (flft κ q) ∷ Γ) G
  lends_again t z R ℓ ℓ' {κ} {q} x ys k =
      lft_new t z (λ ν. move t (1 ∷ 2 ∷ []) $ fsplit t $ pure_l t (mut_slice_at R (at_last x ys) (mut_slice_vals x)) (λ p. fsplit t $
      opens_slice t z R ys x.ref_ptr.0 x.ref_ptr.1 $
      use1 𝓛 (‵ (cells (mem R) ys x.ref_ptr.0 x.ref_ptr.1)) (whole_in 𝓛 R ys x.ref_ptr.0 x.ref_ptr.1) $
      use1 𝓛 (later (some (λ (δ : GName). ‵ ((MutSlice ℓ' (ν ∷ []) R).own_val (record { ref_ptr = x.ref_ptr; ghost_name = δ; now = ys })
      (mut_slice_vals (at_last x ys))) ⊛ ‵ (flent (ν ∷ []) (Held R (length ys) x.ref_ptr.0 x.ref_ptr.1 δ)))))
      (lends_slice 𝓛 R ℓ' (ν ∷ []) ys x.ref_ptr.0 x.ref_ptr.1 p.1) $ await t z $ pick t (λ δ. split t $
      rewrite t 0 (λ (us : List Val). ‵ ((MutSlice ℓ' (ν ∷ []) R).own_val (record { ref_ptr = x.ref_ptr; ghost_name = δ; now = ys }) us)) (sym p.0) refl $
      -- [the `&mut [T]`; the lender's part; the open borrow; obs; auth; ν's token]
      move t (3 ∷ 4 ∷ []) $ fjoin t $ move t (3 ∷ 0 ∷ []) $ fjoin t $ move t (2 ∷ 0 ∷ []) $ fjoin t $ move t (2 ∷ 1 ∷ 0 ∷ []) $ k ν δ)))

  pub back_again : K → Soaks G
      → (R : RattleType) (ℓ : Lifetime) {κ : Lft} {q : Share} {ν : ℕ} {δ : GName} (x : MutBor (List R.Denot)) (ys zs : List R.Denot)
      → Room R (length x.now) → length ys ≡ length x.now → length zs ≡ length ys
      → Step K 𝓛 (‵ ((MutSlice ℓ κ R).own_val (at_last x zs) (mut_slice_vals x)) ∷ ‵ (flft κ q) ∷ Γ) G
      (‵ (flft (ν ∷ []) full_share) ∷ ‵ (Again R κ (ν ∷ []) q x ys δ) ∷ ‵ (finally R δ zs) ∷ Γ) G
  back_again t z R ℓ {κ} {q} {ν} {δ} x ys zs room was e = step (λ s. lft_end t z $ move t (1 ∷ []) $ fsplit t $ move t (2 ∷ 0 ∷ 3 ∷ []) $
      use3 𝓛 (later (‵ ((Arr (mem R) (length ys)).own_at zs x.ref_ptr.0 x.ref_ptr.1))) (slice_back 𝓛 R (ν ∷ []) δ zs (length ys) x.ref_ptr.0
      x.ref_ptr.1) $ await t z $ fsplit t $ drop t $
      use1 𝓛 (‵ (row_of R full_share zs x.ref_ptr.0 x.ref_ptr.1)) (whole_out 𝓛 R zs x.ref_ptr.0 x.ref_ptr.1) $ move t (1 ∷ []) $ fsplit t $
      move t (1 ∷ []) $ fsplit t $
      -- [obs; auth; the open borrow; the elements]
      move t (3 ∷ 2 ∷ 0 ∷ 1 ∷ []) $ closes_slice t z R ys zs e x.ref_ptr.0 x.ref_ptr.1 $ fjoin t $
      pure_i t (mut_slice_at R (at_last x zs) (mut_slice_vals x)) (tt, (tt, tt))
      (ap (λ (m : ℕ). slice_val x.ref_ptr m ∷ []) (sym (e ∙ was)), subst (Room R) (sym (e ∙ was)) room) $ fjoin t $ s)
