-- A leaf that gives a worker of the list its turn, whatever it hands back that says how the turn came out, as a step of a caller's walk: board, list
-- and index go to the leaf, each with a share of its lifetime's token, from the head of the context; their last states are said, their borrows are
-- there, closed, and the tokens are back. Assumes `Logic`, and that the leaf meets its contract.
use mathlib.Core.Path.{◌≡◌, refl}
use Prim.Native.Nat.{ℕ, ◌<◌, ◌^◌}
use mathlib.Core.List.{List, [], ◌∷◌}
use lib.ListN.{length}
use seplogic.Ra.Ura.{Ura}
use mir.Syntax.{Callee, Place, Opd as Operand, Body, named, seq, call, w64}
use mir.Val.{Val}
use base.Logic.{emp, id⊢}
use base.Fml.{Lft, Share, ftrue, flft}
use prog.Wp.{Env, Calls, Loops}
use types.Logic.{Logic}
use contract.Monad.{fact}
use types.Kit.{Item, ‵, ◌⊛◌, Post, runs, lands, Seq, ◌$◌, move, drop, join, fsplit, fjoin, feq_l}
use types.Run.{Opds}
use sound.WpLaws.{FmC}
use denote.RattleType.{RattleType, owns}
use denote.Laws.{Is, Tells}
use denote.Plain.{uint_vals}
use denote.Builtin.{u64, usize}
use denote.Ref.{MutBor}
use denote.Slice.{MutSlice}
use denote.Steps.{only, nothing}
use denote.Struct.Laws as LL
use denote.Triple.Clauses.{Clauses, Ended, closing}
use denote.Triple.Spec.{triple_of}
use denote.Triple.Statement.{Triple}
use Rattle.turn.specs.declared.Worker.{Worker}
use Rattle.turn.specs.Turn.{Said}
use Rattle.turn.specs.Turn.{After, after, answer_of}
use Rattle.engine.specs.declared.Floor.{Floor}
use Rattle.hall.specs.Calls.{index_left}
use Rattle.floor.specs.Calls.{OnList, on_list}
use Rattle.engine.specs.contracts.Floor as F
use Rattle.engine.proofs.Floor.TheLaws as F'
use Rattle.floor.proofs.Walk.{arg, arg_num, cited_call}
use Rattle.floor.proofs.Lend.{Given}
use Rattle.floor.proofs.Records.{row}
use Rattle.floor.proofs.Displayed.{three_apart, three_together}
use Rattle.floor.proofs.ForWorker.{for_worker}

-- what a floor is to the machine
abbrev pub floor_vals : Floor → List Val
floor_vals = LL.vals F.the_type F'.the_laws

-- what such a leaf leaves of board and list, and says: a step of its worker alone, or a whole turn
abbrev pub Saying : Type 0
Saying = List ℕ → List Worker → List ℕ → Floor → ℕ → After (OnList Said)

-- and the index follows
abbrev pub LeafSays : Saying → List ℕ → List Worker → List ℕ → Floor → ℕ → List ℕ → List Worker → List ℕ → Said → Type 0
LeafSays Say board records index f i board' records' index' s =
    (after board' (on_list records' s) ≡ Say board records index f i) × (index' ≡ index_left index (answer_of s))

-- a value that says how a turn came out, and what it is to the machine
pub record Told : Type 2 where
  pub row : RattleType
  pub val : row.Denot → Val
  pub tells : Tells row (Is row) (λ s. val s ∷ [])
  pub says : row.Denot → Said

module _ (N : Told) where
  abbrev pub leaf_ended : Ended
  leaf_ended = for_worker N.row

  abbrev pub leaf : {M : Type 1} (𝓤 : Ura M) → Saying → Clauses 𝓤 leaf_ended
  leaf 𝓤 Say κs a = record {
    ghost = Unit {0};
    requires = λ _. emp 𝓤;
    ensures = λ _ r e. fact 𝓤 (LeafSays Say a.0.now a.1.0.now a.1.1.0.now a.1.1.1.0 a.1.1.1.1.0
        e.0.now e.1.0.now e.1.1.0.now (N.says r));
  }

  -- the leaf of this key meets its contract
  abbrev pub Turns : {M : Type 1} {𝓤 : Ura M} (𝓛 : Logic 𝓤) (C : Calls 𝓤 𝓛.H) → Callee → Saying → Type 1
  Turns {𝓤 = 𝓤} 𝓛 C nm Say = Triple 𝓤 (C nm) (triple_of 𝓛 leaf_ended.signature (closing 𝓛 leaf_ended (leaf 𝓤 Say)))

module _ (N : Told) {M : Type 1} {𝓤 : Ura M} {𝓛 : Logic 𝓤} {K : Type 0} {Γ : List (Item 𝓤)} {E : Env 𝓤 𝓛.H} {C : Calls 𝓤 𝓛.H}
    {Λ : Loops 𝓤 𝓛.H} {p : Post 𝓤 𝓛.H} {xs : List Operand} {d : Place} {rest : Body} {κ₀ κ₁ κ₂ : Lft} {q₀ q₁ q₂ : Share} where
  open 𝓛 use {H}

  pub turn_call_lem : {nm : Callee} → K → FmC 𝓤 H 𝓛.laws C → (Say : Saying) → Turns N 𝓛 C nm Say
      → (x : MutBor (List ℕ)) (sx : Val) (y : MutBor (List Worker)) (sy : Val) (z : MutBor (List ℕ)) (sz : Val)
      → (f : Floor) → Is F.the_row f (floor_vals f) → (i : ℕ) → i < 2 ^ 64
      → Opds K 𝓛 (((‵ (flft κ₀ q₀) ⊛ (‵ (flft κ₁ q₁) ⊛ (‵ (flft κ₂ q₂) ⊛ ‵ ftrue))) ⊛ ‵ (owns
      (MutSlice (named 0) κ₀ u64 ∷ MutSlice (named 1) κ₁ row ∷ MutSlice (named 2) κ₂ u64 ∷ F.the_row ∷ usize ∷ []) (x, (y, (z, (f, (i, tt)))))
      (sx ∷ [], (sy ∷ [], (sz ∷ [], (floor_vals f, (uint_vals w64 i, tt))))))) ∷ Γ) E xs
      (sx ∷ sy ∷ sz ∷ only (floor_vals f) ∷ only (uint_vals w64 i) ∷ [])
      → ((s : N.row.Denot) → Is N.row s (N.val s ∷ []) → (zs : List ℕ) (us : List Worker) (js : List ℕ)
      → length zs ≡ length x.now → length us ≡ length y.now → length js ≡ length z.now
      → LeafSays Say x.now y.now z.now f i zs us js (N.says s)
      → Seq K 𝓛 (‵ (flft κ₀ q₀) ∷ ‵ (flft κ₁ q₁) ∷ ‵ (flft κ₂ q₂)
      ∷ ‵ (Given u64 κ₀ x zs) ∷ ‵ (Given row κ₁ y us) ∷ ‵ (Given u64 κ₂ z js) ∷ Γ)
      (lands C Λ E d (N.val s) rest p))
      → Seq K 𝓛 (‵ ((MutSlice (named 0) κ₀ u64).own_val x (sx ∷ [])) ∷ ‵ ((MutSlice (named 1) κ₁ row).own_val y (sy ∷ []))
      ∷ ‵ ((MutSlice (named 2) κ₂ u64).own_val z (sz ∷ [])) ∷ ‵ (flft κ₀ q₀) ∷ ‵ (flft κ₁ q₁) ∷ ‵ (flft κ₂ q₂) ∷ Γ)
      (runs C Λ E (seq (call nm xs d) rest) p)
  turn_call_lem t fm Say met x sx y sy z sz f f-is i fits os k =
      nothing t $ arg_num t i fits $ arg t F.the_row (LL.makes F.the_type F'.the_plain 𝓛) f _ f-is $
      -- [the plain ones; the board; the list; the index; κ₀'s token; κ₁'s token; κ₂'s token]
      nothing t $ move t (5 ∷ 6 ∷ 7 ∷ 0 ∷ 2 ∷ 3 ∷ 4 ∷ 1 ∷ []) $ three_together t $ join t $
      cited_call t fm (leaf_ended N) (leaf N 𝓤 Say) met (
        (
          (κ₀, (κ₁, (κ₂, tt))),
          (q₀, (q₁, (q₂, tt))),
          tt,
          (x, (y, (z, (f, (i, tt))))),
          (sx ∷ [], (sy ∷ [], (sz ∷ [], (floor_vals f, (uint_vals w64 i, tt))))),
        ),
        tt,
      ) (id⊢ 𝓤 _)
      (‵ (flft κ₀ q₀) ⊛ (‵ (flft κ₁ q₁) ⊛ (‵ (flft κ₂ q₂) ⊛ ‵ ftrue))) refl N.val N.tells
      (λ r ws. LeafSays Say x.now y.now z.now f i ws.0 ws.1.0 ws.1.1.0 (N.says r)) (λ r ws. refl) os (λ r ws is e.
      three_apart t $
      -- [the tokens; true; what board, list and index leave; nothing]
      move t (4 ∷ []) $ fsplit t $ fsplit t $ move t (1 ∷ []) $ feq_l t (λ same₀. fjoin t $
      move t (5 ∷ []) $ fsplit t $ fsplit t $ move t (1 ∷ []) $ feq_l t (λ same₁. fjoin t $
      move t (6 ∷ []) $ fsplit t $ fsplit t $ move t (1 ∷ []) $ feq_l t (λ same₂. fjoin t $
      -- [what index, list and board leave; the tokens; true; nothing]
      move t (6 ∷ []) $ drop t $ move t (6 ∷ []) $ drop t $ move t (3 ∷ 4 ∷ 5 ∷ 2 ∷ 1 ∷ 0 ∷ []) $
      k r is ws.0 ws.1.0 ws.1.1.0 same₀ same₁ same₂ e))))
