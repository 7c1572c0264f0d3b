-- What the walks share where the index is lent beside the board and the list. Assumes `Logic`, and that the callee meets its contract.
--     three_apart, three_together      three lent slices and their tokens, as they come and as they are handed back
--     displayed_call                   a callee to which board and index go for good as two `&mut`, at the machine values sx and sy: their last
--                                      states are said, their borrows are there, closed, and the tokens are back
use mathlib.Core.Path.{◌≡◌, refl}
use Prim.Native.Nat.{ℕ}
use mathlib.Core.List.{List, [], ◌∷◌}
use lib.ListN.{length}
use seplogic.Ra.Ura.{Ura}
use mir.Syntax.{Callee, Place, Opd as Operand, Body, named, seq, call}
use mir.Val.{Val}
use base.Logic.{ent, emp}
use base.Fml.{Lft, Share, Fml, fsep, ftrue, flft}
use prog.Wp.{Env, Calls, Loops}
use types.Logic.{Logic, sem}
use types.Kit.{Item, ‵, ◌⊛◌, Goal, Post, runs, lands, Seq, Step, step, ◌$◌, move, drop, split, join, fsplit, fjoin, feq_l, use0}
use types.Run.{Opds}
use sound.WpLaws.{FmC}
use denote.RattleType.{RattleType, Denots, Valss, flat, owns}
use denote.Laws.{Is, Tells}
use denote.Exit.{yes}
use denote.Signature.{Slot, plain, types_at}
use denote.Triple.End.{Kepts}
use denote.Triple.Clauses.{Clauses, Ended, closing}
use denote.Builtin.{u64, SliceRefMutOf}
use denote.Ref.{MutBor}
use denote.Slice.{MutSlice}
use denote.Steps.{nothing}
use denote.Triple.Spec.{triple_of}
use denote.Triple.Statement.{Triple}
use Rattle.floor.proofs.Walk.{cited_call}
use Rattle.floor.proofs.Lend.{Given}
use Rattle.floor.proofs.Leaves.{Says}

module _ {M : Type 1} {𝓤 : Ura M} {𝓛 : Logic 𝓤} {K : Type 0} {Γ : List (Item 𝓤)} {G : Goal 𝓤 𝓛.H}
    {k₀ k₁ k₂ k₃ : Item 𝓤} {P Q R S : Fml} where
  pub three_apart : K → Step K 𝓛 (k₀ ∷ k₁ ∷ k₂ ∷ k₃ ∷ ‵ P ∷ ‵ Q ∷ ‵ R ∷ ‵ S ∷ Γ) G
      ((k₀ ⊛ (k₁ ⊛ (k₂ ⊛ k₃))) ∷ ‵ (fsep P (fsep Q (fsep R S))) ∷ Γ) G
  three_apart t = step (λ s. move t (1 ∷ []) $ fsplit t $ move t (1 ∷ []) $ fsplit t $ move t (1 ∷ []) $ fsplit t $ move t (4 ∷ []) $ split t $
      move t (1 ∷ []) $ split t $ move t (1 ∷ []) $ split t $ move t (3 ∷ 2 ∷ 0 ∷ 1 ∷ 7 ∷ 6 ∷ 4 ∷ 5 ∷ []) $ s)

  pub three_together : K → Step K 𝓛 ((k₀ ⊛ (k₁ ⊛ (k₂ ⊛ k₃))) ∷ ‵ (fsep P (fsep Q (fsep R S))) ∷ Γ) G
      (k₀ ∷ k₁ ∷ k₂ ∷ k₃ ∷ ‵ P ∷ ‵ Q ∷ ‵ R ∷ ‵ S ∷ Γ) G
  three_together t = step (λ s. move t (6 ∷ 7 ∷ []) $ fjoin t $ move t (6 ∷ 0 ∷ []) $ fjoin t $ move t (5 ∷ 0 ∷ []) $ fjoin t $
      move t (3 ∷ 4 ∷ []) $ join t $ move t (3 ∷ 0 ∷ []) $ join t $ move t (2 ∷ 0 ∷ []) $ join t $ s)

module _ (ps : List (Slot 2)) (ks : Kepts ps) (R : RattleType) where
  abbrev pub displayed_ended : Ended
  displayed_ended = record {
    signature = record {
      lifetimes = 2;
      outlives = [];
      params = SliceRefMutOf (0 ∷ []) tt (plain (λ _. u64)) (λ _. tt) ∷ SliceRefMutOf (1 ∷ []) tt (plain (λ _. u64)) (λ _. tt) ∷ ps;
      result = plain (λ _. R);
    };
    kept = (yes, (yes, ks));
  }

module _ {M : Type 1} {𝓤 : Ura M} {𝓛 : Logic 𝓤} {K : Type 0} {Γ : List (Item 𝓤)} {E : Env 𝓤 𝓛.H} {C : Calls 𝓤 𝓛.H}
    {Λ : Loops 𝓤 𝓛.H} {p : Post 𝓤 𝓛.H} {xs : List Operand} {d : Place} {rest : Body} {κ₀ κ₁ : Lft} {q₀ q₁ : Share} where
  open 𝓛 use {H}

  pub displayed_call : {f : Callee} → K → FmC 𝓤 H 𝓛.laws C → (ps : List (Slot 2)) (ks : Kepts ps) (R : RattleType)
      (c : Clauses 𝓤 (displayed_ended ps ks R))
      → Triple 𝓤 (C f) (triple_of 𝓛 (displayed_ended ps ks R).signature (closing 𝓛 (displayed_ended ps ks R) c))
      → (ds : Denots (types_at ps (κ₀, (κ₁, tt)))) (vs : Valss (types_at ps (κ₀, (κ₁, tt))))
      → ent 𝓤 (emp 𝓤) (sem 𝓛 (owns (types_at ps (κ₀, (κ₁, tt))) ds vs))
      → (spell : R.Denot → Val) → Tells R (Is R) (λ r. spell r ∷ []) → (φ : R.Denot → List ℕ → List ℕ → Type 0)
      → (x : MutBor (List ℕ)) (sx : Val) (y : MutBor (List ℕ)) (sy : Val)
      → Says 𝓤 (displayed_ended ps ks R) c (κ₀, (κ₁, tt)) (x, (y, ds)) (λ r us. φ r us.0 us.1.0)
      → Opds K 𝓛 (((‵ (flft κ₀ q₀) ⊛ (‵ (flft κ₁ q₁) ⊛ ‵ ftrue)) ⊛ ‵ (owns
      (MutSlice (named 0) κ₀ u64 ∷ MutSlice (named 1) κ₁ u64 ∷ types_at ps (κ₀, (κ₁, tt))) (x, (y, ds)) (sx ∷ [], (sy ∷ [], vs)))) ∷ Γ) E xs
      (sx ∷ sy ∷ flat (types_at ps (κ₀, (κ₁, tt))) vs)
      → ((r : R.Denot) → Is R r (spell r ∷ []) → (zs us : List ℕ) → length zs ≡ length x.now → length us ≡ length y.now → φ r zs us
      → Seq K 𝓛 (‵ (flft κ₀ q₀) ∷ ‵ (flft κ₁ q₁) ∷ ‵ (Given u64 κ₀ x zs) ∷ ‵ (Given u64 κ₁ y us) ∷ Γ)
      (lands C Λ E d (spell r) rest p))
      → Seq K 𝓛 (‵ ((MutSlice (named 0) κ₀ u64).own_val x (sx ∷ [])) ∷ ‵ ((MutSlice (named 1) κ₁ u64).own_val y (sy ∷ []))
      ∷ ‵ (flft κ₀ q₀) ∷ ‵ (flft κ₁ q₁) ∷ Γ) (runs C Λ E (seq (call f xs d) rest) p)
  displayed_call t fm ps ks R c met ds vs had spell tl φ x sx y sy says os k =
      use0 𝓛 (‵ (owns (types_at ps (κ₀, (κ₁, tt))) ds vs)) had $
      -- [the plain ones; the board; the index; κ₀'s token; κ₁'s token]
      move t (2 ∷ 0 ∷ []) $ fjoin t $ move t (1 ∷ 0 ∷ []) $ fjoin t $
      nothing t $ move t (3 ∷ 0 ∷ []) $ join t $ move t (2 ∷ 0 ∷ []) $ join t $ join t $
      cited_call t fm (displayed_ended ps ks R) c met
      (((κ₀, (κ₁, tt)), (q₀, (q₁, tt)), tt, (x, (y, ds)), (sx ∷ [], (sy ∷ [], vs))), says.0) says.1
      (‵ (flft κ₀ q₀) ⊛ (‵ (flft κ₁ q₁) ⊛ ‵ ftrue)) refl spell tl (λ r us. φ r us.0 us.1.0) says.2 os (λ r us is e.
      -- [the tokens; the last states]
      move t (1 ∷ []) $ fsplit t $ fsplit t $ fsplit t $ move t (1 ∷ []) $ feq_l t (λ same₀. fjoin t $
      move t (1 ∷ []) $ fsplit t $ fsplit t $ fsplit t $ move t (1 ∷ []) $ feq_l t (λ same₁. fjoin t $
      -- [what the index leaves; nothing; what the board leaves; the tokens]
      move t (1 ∷ []) $ drop t $ move t (2 ∷ []) $ split t $ move t (1 ∷ []) $ split t $ move t (1 ∷ []) $ drop t $
      move t (1 ∷ 0 ∷ 3 ∷ 2 ∷ []) $ k r is us.0 us.1.0 same₀ same₁ e)))
