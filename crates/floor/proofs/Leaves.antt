-- The leaves as steps of a caller's walk. Each takes the lent list whole, with a share of its lifetime's token, from the head of the
-- context; the operands are read with one entry for the two. Assumes `Logic`, and that the leaf meets its contract.
--     lent_call                a callee to which the list is lent as a `&`: it comes back as it was
--     shared_call              such a callee, by a caller that itself has the list as a `&`: it has a copy of it
--     given_call               a callee to which it goes for good as a `&mut`, at the machine value sx: its last state is said, its
--                              borrow is there, closed, and the token is back
--     take_call, put_call      the two leaves
--     read_call                the first of them, by a caller that itself has the list as a `&`
--     take_known, ..           the leaf's theorem, at the key by which a caller's MIR calls it
use mathlib.Core.Path.{◌≡◌, refl}
use Prim.Native.Nat.{ℕ, ◌<◌, ◌^◌}
use mathlib.Core.List.{List, [], ◌∷◌}
use lib.ListN.{length, get_or, set}
use seplogic.Ra.Ura.{Ura}
use base.Fraction.{full_share}
use mir.Syntax.{Callee, Place, Opd as Operand, Body, Lifetime, named, seq, call, w64}
use mir.Val.{Val, vunit}
use base.Logic.{SProp, ent, emp, id⊢}
use base.Fml.{Lft, Share, ftrue, flft}
use prog.Memory.{Memory}
use prog.Model.{Model}
use prog.Routine.{Routine, Env as REnv}
use prog.Wp.{Env, Calls, Loops}
use types.Logic.{Logic, sem}
use contract.Monad.{Fun, fact}
use contract.Lifetimes.{Lfts}
use contract.Running.{Running, tables, within}
use prog.Wired.{Wired}
use types.Kit.{Item, ‵, ◌⊛◌, Post, runs, lands, Seq, ◌$◌, move, drop, split, join, fsplit, fjoin, feq_l, use0, use1, ◌∵◌, !, qed, done}
use types.Run.{Opds}
use sound.WpLaws.{FmC}
use denote.RattleType.{RattleType, Denots, Valss, flat, owns}
use denote.Laws.{Is, Tells}
use denote.Plain.{uint_vals, Nothing-Tells, Nothing}
use denote.Exit.{yes}
use denote.Signature.{Slot, plain, types_at}
use denote.Triple.End.{Kepts}
use denote.Triple.Entry.{Args, Res}
use denote.Triple.Clauses.{Clauses, Ended, Lasts, at_exit, closing}
use denote.Builtin.{usize, SliceRefOf, SliceRefMutOf}
use denote.Ref.{Bor, MutBor}
use denote.Slice.{MutSlice, ShrSlice, Room, mut_slice_vals, shr_slice_vals, shr_slice_copy}
use denote.Steps.{only, nothing}
use denote.Struct.Laws as LL
use denote.Triple.Spec.{triple_of}
use denote.Triple.Statement.{Triple}
use Rattle.turn.specs.declared.Worker.{Worker}
use Rattle.engine.specs.Calls.{blank}
use Rattle.turn.specs.contracts.Worker as T
use Rattle.turn.proofs.Worker.TheLaws as T'
use Rattle.floor.proofs.Walk.{arg_num, cited_call}
use Rattle.floor.proofs.Lend.{Given, Shared, lends_shared, back_from_shared}
use Rattle.floor.proofs.Records.{row, row_laws, row_shares, vals, val, arg_worker}
use Rattle.floor.specs.contracts.list.take_at as take
use Rattle.floor.proofs.list.take_at.Symbol as take-def
use Rattle.floor.proofs.list.take_at.Met as take-thm
use Rattle.floor.specs.contracts.list.put_at as put
use Rattle.floor.proofs.list.put_at.Symbol as put-def
use Rattle.floor.proofs.list.put_at.Met as put-thm

module _ {M : Type 1} {𝓤 : Ura M} (𝓛 : Logic 𝓤) (mem : Memory → SProp 𝓤) (run : Routine → Fun 𝓤) (C : Calls 𝓤 𝓛.H) where
  abbrev pub Takes : Type 1
  Takes = Triple 𝓤 (C take-def.name) (triple_of 𝓛 take.signature (take.spec 𝓛 mem run))

  abbrev pub Puts : Type 1
  Puts = Triple 𝓤 (C put-def.name) (triple_of 𝓛 put.signature (put.spec 𝓛 mem run))

-- ---- a callee that takes the list, lent as a `&` or given as a `&mut`, and after it what the slots ps take
module _ (ps : List (Slot 1)) (ks : Kepts ps) (R : RattleType) where
  abbrev lent_ended : Ended
  lent_ended = record {
    signature = record { lifetimes = 1; outlives = []; params = SliceRefOf (0 ∷ []) tt (plain (λ _. row)) (λ _. tt) ∷ ps; result = plain (λ _. R) };
    kept = (yes, ks);
  }

  abbrev given_ended : Ended
  given_ended = record {
    signature = record { lifetimes = 1; outlives = []; params = SliceRefMutOf (0 ∷ []) tt (plain (λ _. row)) (λ _. tt) ∷ ps; result = plain (λ _. R) };
    kept = (yes, ks);
  }

-- what is asked of its contract at these arguments: it asks nothing, and says φ
abbrev pub Says : {M : Type 1} (𝓤 : Ura M) (T : Ended) (c : Clauses 𝓤 T) (κs : Lfts T.signature.lifetimes) (a : Args T.signature κs)
    → (Res T.signature κs → Lasts T κs a → Type 0) → Type 2
Says 𝓤 T c κs a φ = (g : (c κs a).ghost) × ent 𝓤 (emp 𝓤) ((c κs a).requires g) × ((r : Res T.signature κs) (ws : Lasts T κs a)
    → (c κs a).ensures g r (at_exit T κs a ws) ≡ fact 𝓤 (φ r ws))

module _ {M : Type 1} {𝓤 : Ura M} {𝓛 : Logic 𝓤} {K : Type 0} {Γ : List (Item 𝓤)} {E : Env 𝓤 𝓛.H} {C : Calls 𝓤 𝓛.H}
    {Λ : Loops 𝓤 𝓛.H} {p : Post 𝓤 𝓛.H} {xs : List Operand} {d : Place} {rest : Body} {κ : Lft} {q : Share} where
  open 𝓛 use {H}

  lent_call : {f : Callee} → K → FmC 𝓤 H 𝓛.laws C → (ps : List (Slot 1)) (ks : Kepts ps) (R : RattleType) (c : Clauses 𝓤 (lent_ended ps ks R))
      → Triple 𝓤 (C f) (triple_of 𝓛 (lent_ended ps ks R).signature (closing 𝓛 (lent_ended ps ks R) c))
      → (ds : (κs : Lfts 1) → Denots (types_at ps κs)) (vs : (κs : Lfts 1) → Valss (types_at ps κs))
      → ((κs : Lfts 1) → ent 𝓤 (emp 𝓤) (sem 𝓛 (owns (types_at ps κs) (ds κs) (vs κs))))
      → (spell : R.Denot → Val) → Tells R (Is R) (λ r. spell r ∷ []) → (φ : R.Denot → Type 0)
      → (ℓ : Lifetime) (x : MutBor (List Worker)) → Room row (length x.now)
      → ((ν : ℕ)
      → Says 𝓤 (lent_ended ps ks R) c (ν ∷ [], tt) (record { ref_ptr = x.ref_ptr; now = x.now }, ds (ν ∷ [], tt)) (λ r _. φ r))
      → ((ν : ℕ)
      → Opds K 𝓛 (((‵ (flft (ν ∷ []) full_share) ⊛ ‵ ftrue) ⊛ ‵ (owns (ShrSlice (named 0) (ν ∷ []) row ∷ types_at ps (ν ∷ [], tt))
      (record { ref_ptr = x.ref_ptr; now = x.now }, ds (ν ∷ [], tt)) (mut_slice_vals x, vs (ν ∷ [], tt)))) ∷ ‵ (Shared row κ (ν ∷ []) q x)
      ∷ Γ) E xs (only (mut_slice_vals x) ∷ flat (types_at ps (ν ∷ [], tt)) (vs (ν ∷ [], tt))))
      → ((r : R.Denot) → Is R r (spell r ∷ []) → φ r
      → Seq K 𝓛 (‵ ((MutSlice ℓ κ row).own_val x (mut_slice_vals x)) ∷ ‵ (flft κ q) ∷ Γ) (lands C Λ E d (spell r) rest p))
      → Seq K 𝓛 (‵ ((MutSlice ℓ κ row).own_val x (mut_slice_vals x)) ∷ ‵ (flft κ q) ∷ Γ) (runs C Λ E (seq (call f xs d) rest) p)
  lent_call t fm ps ks R c met ds vs had spell tl φ ℓ x room says os k = lends_shared t tt row (row_shares 𝓛) ℓ (named 0) x (λ ν.
      use0 𝓛 (‵ (owns (types_at ps (ν ∷ [], tt)) (ds (ν ∷ [], tt)) (vs (ν ∷ [], tt)))) (had (ν ∷ [], tt)) $ move t (2 ∷ 0 ∷ []) $ fjoin t $ nothing t $
      move t (2 ∷ 0 ∷ []) $ join t $ join t $
      cited_call t fm (lent_ended ps ks R) c met (
        ((ν ∷ [], tt), (full_share, tt), tt, (record { ref_ptr = x.ref_ptr; now = x.now }, ds (ν ∷ [], tt)), (mut_slice_vals x, vs (ν ∷ [], tt))),
        (says ν).0,
      ) (says ν).1
      (‵ (flft (ν ∷ []) full_share) ⊛ ‵ ftrue) refl spell tl (λ r _. φ r) (says ν).2 (os ν) (λ r _ is e.
      split t $ move t (0 ∷ 3 ∷ []) $ back_from_shared t tt row ℓ x room $ move t (2 ∷ 3 ∷ []) $ drop t $ drop t $ k r is e))

  pub shared_call : {f : Callee} → K → FmC 𝓤 H 𝓛.laws C → (ps : List (Slot 1)) (ks : Kepts ps) (R : RattleType) (c : Clauses 𝓤 (lent_ended ps ks R))
      → Triple 𝓤 (C f) (triple_of 𝓛 (lent_ended ps ks R).signature (closing 𝓛 (lent_ended ps ks R) c))
      → (ds : Denots (types_at ps (κ, tt))) (vs : Valss (types_at ps (κ, tt))) → ent 𝓤 (emp 𝓤) (sem 𝓛 (owns (types_at ps (κ, tt)) ds vs))
      → (spell : R.Denot → Val) → Tells R (Is R) (λ r. spell r ∷ []) → (φ : R.Denot → Type 0)
      → (ℓ : Lifetime) (x : Bor (List Worker)) → Says 𝓤 (lent_ended ps ks R) c (κ, tt) (x, ds) (λ r _. φ r)
      → Opds K 𝓛 (((‵ (flft κ q) ⊛ ‵ ftrue) ⊛ ‵ (owns (ShrSlice (named 0) κ row ∷ types_at ps (κ, tt)) (x, ds) (shr_slice_vals x, vs)))
      ∷ ‵ ((ShrSlice ℓ κ row).own_val x (shr_slice_vals x)) ∷ Γ) E xs (only (shr_slice_vals x) ∷ flat (types_at ps (κ, tt)) vs)
      → ((r : R.Denot) → Is R r (spell r ∷ []) → φ r
      → Seq K 𝓛 (‵ ((ShrSlice ℓ κ row).own_val x (shr_slice_vals x)) ∷ ‵ (flft κ q) ∷ Γ) (lands C Λ E d (spell r) rest p))
      → Seq K 𝓛 (‵ ((ShrSlice ℓ κ row).own_val x (shr_slice_vals x)) ∷ ‵ (flft κ q) ∷ Γ) (runs C Λ E (seq (call f xs d) rest) p)
  shared_call t fm ps ks R c met ds vs had spell tl φ ℓ x says os k =
      let shared : Item 𝓤 = ‵ ((ShrSlice ℓ κ row).own_val x (shr_slice_vals x)) in
      use1 𝓛 (shared ⊛ shared) ((shr_slice_copy 𝓛 ℓ κ row row_laws).twice x (shr_slice_vals x)) $ split t $
      use0 𝓛 (‵ (owns (types_at ps (κ, tt)) ds vs)) had $ move t (1 ∷ 0 ∷ []) $ fjoin t $ nothing t $ move t (3 ∷ 0 ∷ []) $ join t $ join t $
      cited_call t fm (lent_ended ps ks R) c met (((κ, tt), (q, tt), tt, (x, ds), (shr_slice_vals x, vs)), says.0) says.1
      (‵ (flft κ q) ⊛ ‵ ftrue) refl spell tl (λ r _. φ r) says.2 os (λ r _ is e.
      -- [the token and true; what is left of the plain ones; the list]
      split t $ move t (1 ∷ []) $ drop t $ move t (1 ∷ []) $ drop t $ move t (1 ∷ 0 ∷ []) $ k r is e)

  pub given_call : {f : Callee} → K → FmC 𝓤 H 𝓛.laws C → (ps : List (Slot 1)) (ks : Kepts ps) (c : Clauses 𝓤 (given_ended ps ks Nothing))
      → Triple 𝓤 (C f) (triple_of 𝓛 (given_ended ps ks Nothing).signature (closing 𝓛 (given_ended ps ks Nothing) c))
      → (ds : Denots (types_at ps (κ, tt))) (vs : Valss (types_at ps (κ, tt))) → ent 𝓤 (emp 𝓤) (sem 𝓛 (owns (types_at ps (κ, tt)) ds vs))
      → (φ : List Worker → Type 0)
      → (x : MutBor (List Worker)) (sx : Val) → Says 𝓤 (given_ended ps ks Nothing) c (κ, tt) (x, ds) (λ _ us. φ us.0)
      → Opds K 𝓛 (((‵ (flft κ q) ⊛ ‵ ftrue) ⊛ ‵ (owns (MutSlice (named 0) κ row ∷ types_at ps (κ, tt)) (x, ds) (sx ∷ [], vs))) ∷ Γ) E xs
      (sx ∷ flat (types_at ps (κ, tt)) vs)
      → ((zs : List Worker) → length zs ≡ length x.now → φ zs
      → Seq K 𝓛 (‵ (flft κ q) ∷ ‵ (Given row κ x zs) ∷ Γ) (lands C Λ E d vunit rest p))
      → Seq K 𝓛 (‵ ((MutSlice (named 0) κ row).own_val x (sx ∷ [])) ∷ ‵ (flft κ q) ∷ Γ) (runs C Λ E (seq (call f xs d) rest) p)
  given_call t fm ps ks c met ds vs had φ x sx says os k =
      use0 𝓛 (‵ (owns (types_at ps (κ, tt)) ds vs)) had $ move t (1 ∷ 0 ∷ []) $ fjoin t $ nothing t $ move t (2 ∷ 0 ∷ []) $ join t $ join t $
      cited_call t fm (given_ended ps ks Nothing) c met (((κ, tt), (q, tt), tt, (x, ds), (sx ∷ [], vs)), says.0) says.1
      (‵ (flft κ q) ⊛ ‵ ftrue) refl (λ _. vunit) Nothing-Tells (λ _ us. φ us.0) says.2 os (λ _ us _ e.
      move t (1 ∷ []) $ fsplit t $ fsplit t $ fsplit t $ move t (1 ∷ []) $ feq_l t (λ same. fjoin t $ move t (1 ∷ []) $ drop t $ move t (1 ∷ []) $ split t $
      move t (1 ∷ []) $ drop t $ k us.0 same e))

  -- ---- one record out of the list, and one back into it
  pub take_call : K → (mem : Memory → SProp 𝓤) (run : Routine → Fun 𝓤) → FmC 𝓤 H 𝓛.laws C → Takes 𝓛 mem run C
      → (ℓ : Lifetime) (x : MutBor (List Worker)) → Room row (length x.now) → (i : ℕ) → i < 2 ^ 64
      → ((ν : ℕ)
      → Opds K 𝓛 (((‵ (flft (ν ∷ []) full_share) ⊛ ‵ ftrue) ⊛ ‵ (owns (ShrSlice (named 0) (ν ∷ []) row ∷ usize ∷ [])
      (record { ref_ptr = x.ref_ptr; now = x.now }, (i, tt)) (mut_slice_vals x, (uint_vals w64 i, tt)))) ∷ ‵ (Shared row κ (ν ∷ []) q x)
      ∷ Γ) E xs (only (mut_slice_vals x) ∷ only (uint_vals w64 i) ∷ []))
      → ((w : Worker) → Is row w (vals w) → w ≡ get_or x.now i blank
      → Seq K 𝓛 (‵ ((MutSlice ℓ κ row).own_val x (mut_slice_vals x)) ∷ ‵ (flft κ q) ∷ Γ) (lands C Λ E d (val w) rest p))
      → Seq K 𝓛 (‵ ((MutSlice ℓ κ row).own_val x (mut_slice_vals x)) ∷ ‵ (flft κ q) ∷ Γ) (runs C Λ E (seq (call take-def.name xs d) rest) p)
  take_call t mem run fm met ℓ x room i fits os k = lent_call t fm (plain (λ _. usize) ∷ []) (yes, tt) row (take.clauses 𝓛 mem run) met
      (λ _. (i, tt)) (λ _. (uint_vals w64 i, tt)) (λ _. qed 𝓛 [] ∵ nothing ! $ arg_num ! i fits $ done !)
      val (LL.tells T.the_type T'.the_laws) (λ r. r ≡ get_or x.now i blank) ℓ x room (λ ν. (tt, id⊢ 𝓤 _, λ r ws. refl)) os k

  -- the list is held as a `&`: the leaf has a copy of it
  pub read_call : K → (mem : Memory → SProp 𝓤) (run : Routine → Fun 𝓤) → FmC 𝓤 H 𝓛.laws C → Takes 𝓛 mem run C
      → (ℓ : Lifetime) (x : Bor (List Worker)) (i : ℕ) → i < 2 ^ 64
      → Opds K 𝓛 (((‵ (flft κ q) ⊛ ‵ ftrue) ⊛ ‵ (owns (ShrSlice (named 0) κ row ∷ usize ∷ []) (x, (i, tt)) (shr_slice_vals x, (uint_vals w64 i, tt))))
      ∷ ‵ ((ShrSlice ℓ κ row).own_val x (shr_slice_vals x)) ∷ Γ) E xs (only (shr_slice_vals x) ∷ only (uint_vals w64 i) ∷ [])
      → ((w : Worker) → Is row w (vals w) → w ≡ get_or x.now i blank
      → Seq K 𝓛 (‵ ((ShrSlice ℓ κ row).own_val x (shr_slice_vals x)) ∷ ‵ (flft κ q) ∷ Γ) (lands C Λ E d (val w) rest p))
      → Seq K 𝓛 (‵ ((ShrSlice ℓ κ row).own_val x (shr_slice_vals x)) ∷ ‵ (flft κ q) ∷ Γ) (runs C Λ E (seq (call take-def.name xs d) rest) p)
  read_call t mem run fm met ℓ x i fits os k =
      shared_call t fm (plain (λ _. usize) ∷ []) (yes, tt) row (take.clauses 𝓛 mem run) met (i, tt) (uint_vals w64 i, tt)
      (qed 𝓛 [] ∵ nothing ! $ arg_num ! i fits $ done !) val (LL.tells T.the_type T'.the_laws) (λ r. r ≡ get_or x.now i blank) ℓ x
      (tt, id⊢ 𝓤 _, λ r ws. refl) os k

  pub put_call : K → (mem : Memory → SProp 𝓤) (run : Routine → Fun 𝓤) → FmC 𝓤 H 𝓛.laws C → Puts 𝓛 mem run C → (x : MutBor (List Worker)) (sx : Val) (i : ℕ)
      → i < 2 ^ 64 → (w : Worker) → Is row w (vals w)
      → Opds K 𝓛 (((‵ (flft κ q) ⊛ ‵ ftrue) ⊛ ‵ (owns (MutSlice (named 0) κ row ∷ usize ∷ row ∷ []) (x, (i, (w, tt)))
      (sx ∷ [], (uint_vals w64 i, (vals w, tt))))) ∷ Γ) E xs (sx ∷ only (uint_vals w64 i) ∷ val w ∷ [])
      → ((zs : List Worker) → length zs ≡ length x.now → zs ≡ set x.now i w
      → Seq K 𝓛 (‵ (flft κ q) ∷ ‵ (Given row κ x zs) ∷ Γ) (lands C Λ E d vunit rest p))
      → Seq K 𝓛 (‵ ((MutSlice (named 0) κ row).own_val x (sx ∷ [])) ∷ ‵ (flft κ q) ∷ Γ) (runs C Λ E (seq (call put-def.name xs d) rest) p)
  put_call t mem run fm met x sx i fits w is os k =
      given_call t fm (plain (λ _. usize) ∷ plain (λ _. row) ∷ []) (yes, (yes, tt)) (put.clauses 𝓛 mem run) met (i, (w, tt))
      (uint_vals w64 i, (vals w, tt)) (qed 𝓛 [] ∵ nothing ! $ arg_worker ! w is $ arg_num ! i fits $ done !)
      (λ zs. zs ≡ set x.now i w) x sx (tt, id⊢ 𝓤 _, λ r ws. refl) os k

-- ---- the leaves' theorems, for a caller
module _ {M : Type 1} {𝓤 : Ura M} (𝓛 : Logic 𝓤) (𝓜 : Model 𝓤 𝓛.H) (𝓡 : Running 𝓤 𝓛.H 𝓜) (γ : REnv) where
  open 𝓛 use {H}

  pub take_known : Wired γ take-def.code → Takes 𝓛 𝓜.mem 𝓡.returns (tables 𝓤 H 𝓜 𝓡 γ).C
  take_known w = take-thm.met 𝓤 𝓛 𝓜 (within 𝓤 H 𝓜 𝓡 γ) w

  pub put_known : Wired γ put-def.code → Puts 𝓛 𝓜.mem 𝓡.returns (tables 𝓤 H 𝓜 𝓡 γ).C
  put_known w = put-thm.met 𝓤 𝓛 𝓜 (within 𝓤 H 𝓜 𝓡 γ) w
