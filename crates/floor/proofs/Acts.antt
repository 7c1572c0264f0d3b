-- The walk of every act of one worker of the lent list on the lent board and the lent index, whatever its core is and whatever it hands back:
--     fn act(board: &mut [u64], records: &mut [Worker], index: &mut [u64], floor: Floor, worker: usize) -> R {
--         let listed = records.len(); let w = take_at(records, worker); let seat = Seat { floor, listed, worker };
--         let done = CORE(board, index, seat, w); put_at(records, worker, done.worker); done.REST }
-- The list is lent as a `&` to `take_at` and comes back, board and index go to the core for good, and the list to `put_at`. All that the walk
-- knows of them is that they meet their contracts. Assumes `Logic`, and that the leaves and the core meet their contracts.
use mathlib.Core.Path.{◌≡◌, refl, ap, subst, ◌∙◌}
use Prim.Native.Nat.{ℕ, ◌*◌}
use mathlib.Core.List.{List, [], ◌∷◌}
use lib.Dec.{T}
use lib.ListN.{set}
use seplogic.Ra.Ura.{Ura}
use mir.Syntax.{Callee, Fn, Sym, Ty, named, erased, imm, mut, w64, ty_int, ty_unit, ty_struct, tnil, tcons, local, value_local}
use mir.Syntax.{place, field, deref, copy, seq, assign, call, rv_opd, addr_of, aggregate, return}
use mir.Val.{Val, vstruct, vcons, vnil, WT, has_ty}
use base.Logic.{SProp, emp, id⊢}
use base.Fml.{ftrue, flft}
use prog.Memory.{Memory}
use prog.Routine.{Routine}
use prog.Wp.{WpFn, Tables}
use types.Logic.{Logic}
use contract.Monad.{Fun, fact}
use types.Kit.{‵, ◌⊛◌, ◌$◌, ◌∵◌, !, qed, move, keep, suffices, frame, done}
use types.Run.{look, init, of_opd, and_then, no_more, returns, enter, alloc1, alloc0, params1, pass1, pass0}
use types.Part.{agg}
use sound.WpLaws.{fm_of}
use denote.RattleType.{RattleType, owns}
use denote.Laws.{Is, Tells, valss}
use denote.Builtin.{u64, usize}
use denote.Slice.{slice_ty, MutSlice, mut_slice_vals}
use denote.Signature.{plain}
use denote.Steps.{only, owned, nothing}
use denote.Struct.Struct.{AreAll, layout}
use denote.Struct.Declared.{Declared, fields, shape}
use denote.Struct.Declared as declared
use denote.Struct.Laws as LL
use denote.Triple.Spec.{Meets, triple_of}
use denote.Triple.Clauses.{Clauses, Ended, closing}
use denote.Triple.Statement.{Triple}
use denote.Triple.Walked.{says}
use denote.Exit.{yes}
use Rattle.turn.specs.declared.Worker.{Worker}
use Rattle.engine.specs.declared.Floor.{Floor}
use Rattle.engine.specs.declared.Seat.{Seat}
use Rattle.engine.specs.Calls.{record_in, seat_in}
use Rattle.turn.specs.contracts.Worker as T
use Rattle.turn.proofs.Worker.TheLaws as T'
use Rattle.engine.specs.contracts.Floor as F
use Rattle.engine.proofs.Floor.TheLaws as F'
use Rattle.engine.specs.contracts.Seat as S
use Rattle.engine.proofs.Seat.TheLaws as S'
use Rattle.floor.proofs.Plain.{Plain}
use Rattle.floor.proofs.Walk.{walk_closes, pointer, var, sets, gets, loc, gone, full, span, relends, part}
use Rattle.floor.proofs.Records.{row, val, vals, typed, arg_worker, seat_vals, seat_is, seat_typed, arg_seat}
use Rattle.floor.proofs.ForWorker.{for_worker, stayed, gone_on_lem, spelled, tells}
use Rattle.floor.proofs.Leaves.{Takes, Puts, take_call, put_call}
use Rattle.floor.proofs.Displayed.{displayed_ended, displayed_call, three_apart, three_together}
use Rattle.floor.proofs.list.take_at.Symbol as take-def
use Rattle.floor.proofs.list.put_at.Symbol as put-def

-- ---- what a core hands back: a struct of two fields, the worker's record and what the act hands on. As the machine has it:
abbrev both_ty : Sym → Ty → Ty
both_ty name τ = ty_struct name (tcons T'.mir (tcons τ tnil))

abbrev both_val : Worker → Val → Val
both_val w v = vstruct (vcons (val w) (vcons v vnil))

pub record Handed (R : Plain) : Type 2 where
  pub row : RattleType
  pub name : Sym
  pub worker : row.Denot → Worker
  pub rest : row.Denot → R.row.Denot
  pub tells : Tells row (Is row) (λ o. both_val (worker o) (R.val (rest o)) ∷ [])
  pub typed : {M : Type 1} {𝓤 : Ura M} (𝓛 : Logic 𝓤) → (o : row.Denot)
      → let v = both_val (worker o) (R.val (rest o)) in Is row o (v ∷ []) → T (has_ty (both_ty name R.ty) v) × WT v
  pub apart : (o : row.Denot) → Is row o (both_val (worker o) (R.val (rest o)) ∷ [])
      → Is T.the_row (worker o) (vals (worker o)) × Is R.row (rest o) (R.val (rest o) ∷ [])

-- a struct of the source: that it has these two fields holds by computation
abbrev pub handed : (R : Plain) (S : Declared) (L : LL.Laws S) (worker : S.D → Worker) (rest : S.D → R.row.Denot)
    → layout (shape S) ≡ both_ty S.name R.ty
    → ((o : S.D) → LL.val S L o ≡ both_val (worker o) (R.val (rest o)))
    → ((o : S.D) → AreAll (fields S) (S.to o) (valss (fields S) (LL.spells S.parts L) (S.to o))
    → Is T.the_row (worker o) (vals (worker o)) × Is R.row (rest o) (R.val (rest o) ∷ []))
    → Handed R
handed R S L worker rest ty-is val_is parts = record {
  row = declared.row S;
  name = S.name;
  worker = worker;
  rest = rest;
  tells = λ o vs is. LL.tells S L o vs is ∙ ap (λ (v : Val). v ∷ []) (val_is o);
  typed = λ 𝓛 o is. let v = both_val (worker o) (R.val (rest o)) in
      subst (λ (τ : Ty). T (has_ty τ v) × WT v) ty-is ((LL.lawful S L 𝓛).typed o _ is).0;
  apart = λ o is. parts o (LL.owed S L o _ is);
}

module _ (R : Plain) (O : Handed R) where
  -- what the core promises, of board and index before and after, and what the act promises, of the list before and after besides
  abbrev pub Inner : Type 1
  Inner = List ℕ → List ℕ → Seat → Worker → List ℕ → List ℕ → O.row.Denot → Type 0

  abbrev pub Outer : Type 1
  Outer = List ℕ → List Worker → List ℕ → Floor → ℕ → List ℕ → List Worker → List ℕ → R.row.Denot → Type 0

  -- what the calls say is what the act promises
  abbrev pub Follows : Inner → Outer → Type 0
  Follows Core Act = (board : List ℕ) (records : List Worker) (index : List ℕ) (f : Floor) (i : ℕ) (w : Worker) (o : O.row.Denot)
      (board' : List ℕ) (records' : List Worker) (index' : List ℕ)
      → w ≡ record_in records i → Core board index (seat_in f records i) w board' index' o → records' ≡ set records i (O.worker o)
      → Act board records index f i board' records' index' (O.rest o)

  abbrev pub core_ended : Ended
  core_ended = displayed_ended (plain (λ _. S.the_row) ∷ plain (λ _. row) ∷ []) (yes, (yes, tt)) O.row

  abbrev pub ended : Ended
  ended = for_worker R.row

  -- the core's contract, and the function's own
  abbrev pub inner : {M : Type 1} (𝓤 : Ura M) → Inner → Clauses 𝓤 core_ended
  inner 𝓤 Core κs a = record {
    ghost = Unit {0};
    requires = λ _. emp 𝓤;
    ensures = λ _ r e. fact 𝓤 (Core a.0.now a.1.0.now a.1.1.0 a.1.1.1.0 e.0.now e.1.0.now r);
  }

  abbrev pub outer : {M : Type 1} (𝓤 : Ura M) → Outer → Clauses 𝓤 ended
  outer 𝓤 Act κs a = record {
    ghost = Unit {0};
    requires = λ _. emp 𝓤;
    ensures = λ _ r e. fact 𝓤 (Act a.0.now a.1.0.now a.1.1.0.now a.1.1.1.0 a.1.1.1.1.0
        e.0.now e.1.0.now e.1.1.0.now r);
  }

  -- its code, where nm is the core's key
  abbrev pub function : Callee → Fn
  function nm = record {
    lifetimes = 3;
    outlives = [];
    ty_params = [];
    givens = 0;
    params = 5;
    locals = local R.ty value_local ∷ local (slice_ty (pointer (named 0) mut u64)) value_local
        ∷ local (slice_ty (pointer (named 1) mut row)) value_local ∷ local (slice_ty (pointer (named 2) mut u64)) value_local
        ∷ local F'.mir value_local ∷ local (ty_int w64) value_local
        ∷ local (ty_int w64) value_local ∷ local T'.mir value_local ∷ local S'.mir value_local ∷ local (both_ty O.name R.ty) value_local
        ∷ local (pointer erased imm row) value_local ∷ local (slice_ty (pointer erased imm row)) value_local
        ∷ local (pointer erased mut u64) value_local ∷ local (slice_ty (pointer erased mut u64)) value_local
        ∷ local (pointer erased mut u64) value_local ∷ local (slice_ty (pointer erased mut u64)) value_local
        ∷ local ty_unit value_local ∷ local (pointer erased mut row) value_local ∷ local (slice_ty (pointer erased mut row)) value_local
        ∷ local T'.mir value_local ∷ [];
    body = seq (assign (place 6 []) (rv_opd (copy (place 2 (field 1 ∷ [])))))
        (seq (assign (place 10 []) (addr_of (place 2 (field 0 ∷ deref T'.mir ∷ []))))
        (seq (assign (place 11 []) (aggregate (copy (place 10 []) ∷ copy (place 2 (field 1 ∷ [])) ∷ [])))
        (seq (call take-def.name (copy (place 11 []) ∷ copy (place 5 []) ∷ []) (place 7 []))
        (seq (assign (place 8 []) (aggregate (copy (place 4 []) ∷ copy (place 6 []) ∷ copy (place 5 []) ∷ [])))
        (seq (assign (place 12 []) (addr_of (place 1 (field 0 ∷ deref (ty_int w64) ∷ []))))
        (seq (assign (place 13 []) (aggregate (copy (place 12 []) ∷ copy (place 1 (field 1 ∷ [])) ∷ [])))
        (seq (assign (place 14 []) (addr_of (place 3 (field 0 ∷ deref (ty_int w64) ∷ []))))
        (seq (assign (place 15 []) (aggregate (copy (place 14 []) ∷ copy (place 3 (field 1 ∷ [])) ∷ [])))
        (seq (call nm (copy (place 13 []) ∷ copy (place 15 []) ∷ copy (place 8 []) ∷ copy (place 7 []) ∷ []) (place 9 []))
        (seq (assign (place 17 []) (addr_of (place 2 (field 0 ∷ deref T'.mir ∷ []))))
        (seq (assign (place 18 []) (aggregate (copy (place 17 []) ∷ copy (place 2 (field 1 ∷ [])) ∷ [])))
        (seq (assign (place 19 []) (rv_opd (copy (place 9 (field 0 ∷ [])))))
        (seq (call put-def.name (copy (place 18 []) ∷ copy (place 5 []) ∷ copy (place 19 []) ∷ []) (place 16 []))
        (seq (assign (place 0 []) (rv_opd (copy (place 9 (field 1 ∷ []))))) return))))))))))))));
  }

  pub act_meets : {M : Type 1} {𝓤 : Ura M} (𝓛 : Logic 𝓤) → (mem : Memory → SProp 𝓤) (run : Routine
      → Fun 𝓤) (𝓣 : Tables 𝓤 𝓛.H) (nm : Callee) (Core : Inner) (Act : Outer) → Follows Core Act
      → Takes 𝓛 mem run 𝓣.C → Triple 𝓤 (𝓣.C nm) (triple_of 𝓛 core_ended.signature (closing 𝓛 core_ended (inner 𝓤 Core)))
      → Puts 𝓛 mem run 𝓣.C
      → Meets 𝓛 ended.signature (WpFn 𝓤 𝓛.H 𝓣.C 𝓣.Λ (function nm)) (closing 𝓛 ended (outer 𝓤 Act))
  act_meets {𝓤 = 𝓤} 𝓛 mem run 𝓣 nm Core Act follows takes cores puts = walk_closes 𝓛 ended stayed (gone_on_lem 𝓛)
      (outer 𝓤 Act) (function nm) 𝓣 spelled tells (λ κs qs bounds a g are Post ends.
      let bs = a.0.now in let ys = a.1.0.now in let index = a.1.1.0 in let f = a.1.1.1.0 in let i = a.1.1.1.1.0 in
      let b-fits = are.0.0.1.0 in let n-fits = are.1.0.0.1.0 in let j-fits = are.1.1.0.0.1.0 in
      let f-is = are.1.1.1.0 in let i-fits = are.1.1.1.1.0.1 in
      let v : ℕ → ℕ → ℕ = loc 20 in
      let seat : Seat = seat_in f ys i in
      let sits = seat_is f ys i f-is n-fits i-fits in
      qed 𝓛 ((‵ (flft κs.0 qs.0) ⊛ (‵ (flft κs.1.0 qs.1.0) ⊛ (‵ (flft κs.1.1.0 qs.1.1.0) ⊛ ‵ ftrue))) ∷ ‵ (owns
      (MutSlice (named 0) κs.0 u64 ∷ MutSlice (named 1) κs.1.0 row ∷ MutSlice (named 2) κs.1.1.0 u64 ∷ F.the_row ∷ usize ∷ []) a _)
      ∷ []) ∵
      enter ! 𝓣.C 𝓣.Λ (function nm) _ _ $
      alloc1 ! (λ l₀. alloc1 ! (λ l₁. alloc1 ! (λ l₂. alloc1 ! (λ l₃. alloc1 ! (λ l₄. alloc1 ! (λ l₅. alloc1 ! (λ l₆. alloc1 ! (λ l₇. alloc1 ! (λ l₈.
      alloc1 ! (λ l₉. alloc1 ! (λ l₁₀. alloc1 ! (λ l₁₁. alloc1 ! (λ l₁₂. alloc1 ! (λ l₁₃. alloc1 ! (λ l₁₄. alloc1 ! (λ l₁₅. alloc1 ! (λ l₁₆.
      alloc1 ! (λ l₁₇. alloc1 ! (λ l₁₈. alloc1 ! (λ l₁₉. alloc0 ! $ params1 ! $
      pass1 ! (init ! (v 0 1) refl (tt, (tt, (record { fits = b-fits }, tt)))) $
      pass1 ! (init ! (v 0 2) refl (tt, (tt, (record { fits = n-fits }, tt)))) $
      pass1 ! (init ! (v 0 3) refl (tt, (tt, (record { fits = j-fits }, tt)))) $
      pass1 ! (init ! (v 0 4) refl ((LL.lawful F.the_type F'.the_laws 𝓛).typed f _ f-is).0) $
      pass1 ! (init ! (v 0 5) refl (tt, record { fits = i-fits })) $ pass0 ! $
      -- [_19; …; _0; …; the tokens; what the parameters own]
      sets ! (of_opd ! (part ! (v 0 2) 1 refl)) (v 0 6) refl (tt, record { fits = n-fits }) $
      relends ! (v 0 2) (v 0 10) (v 0 11) refl n-fits $
      move ! (40 ∷ 41 ∷ []) $ three_apart ! $ move ! (5 ∷ 1 ∷ []) $
      -- [what the list owns; κ₁'s token; κ₀'s token; κ₂'s token; true; what the board owns; the index; the plain ones; _19; …]
      take_call ! mem run (fm_of 𝓤 𝓛.H 𝓛.laws 𝓣) takes (named 1) a.1.0 are.1.0.0.1 i i-fits
      (λ ν. and_then ! (var ! (v 8 11) refl) (and_then ! (var ! (v 8 5) refl) (no_more !))) (λ w w-is e₁.
      gets ! (v 8 7) refl (typed 𝓛 w w-is) $
      sets ! (agg ! (and_then ! (var ! (v 8 4) refl) (and_then ! (var ! (v 8 6) refl) (and_then ! (var ! (v 8 5) refl) (no_more !))))) (v 8 8) refl
      (seat_typed 𝓛 seat sits) $
      relends ! (v 8 1) (v 8 12) (v 8 13) refl b-fits $ relends ! (v 8 3) (v 8 14) (v 8 15) refl j-fits $
      move ! (5 ∷ 6 ∷ 2 ∷ 3 ∷ []) $
      -- [what the board owns; the index; κ₀'s token; κ₂'s token; the list; κ₁'s token; true; the plain ones; _19; …]
      displayed_call ! (fm_of 𝓤 𝓛.H 𝓛.laws 𝓣) (plain (λ _. S.the_row) ∷ plain (λ _. row) ∷ []) (yes, (yes, tt)) O.row (inner 𝓤 Core) cores
      (seat, (w, tt)) (seat_vals seat, (vals w, tt)) (qed 𝓛 [] ∵ nothing ! $ arg_worker ! w w-is $ arg_seat ! seat sits $ done !)
      (λ o. both_val (O.worker o) (R.val (O.rest o))) O.tells (λ r zs js. Core bs index.now seat w zs js r)
      a.0 (only (mut_slice_vals a.0)) index (only (mut_slice_vals index)) (tt, id⊢ 𝓤 _, λ r zs. refl)
      (and_then ! (var ! (v 5 13) refl) (and_then ! (var ! (v 5 15) refl) (and_then ! (var ! (v 5 8) refl) (and_then ! (var ! (v 5 7) refl) (no_more !)))))
      (λ o o_is zs js same₀ same₂ e₂.
      -- [κ₀'s token; κ₂'s token; what board and index leave; what the list owns; κ₁'s token; true; the plain ones; _19; …]
      let both = O.apart o o_is in
      gets ! (v 8 9) refl (O.typed 𝓛 o o_is) $
      relends ! (v 8 2) (v 8 17) (v 8 18) refl n-fits $
      sets ! (of_opd ! (part ! (v 8 9) 0 refl)) (v 8 19) refl (typed 𝓛 (O.worker o) both.0) $
      move ! (4 ∷ 5 ∷ []) $ put_call ! mem run (fm_of 𝓤 𝓛.H 𝓛.laws 𝓣) puts a.1.0 (only (mut_slice_vals a.1.0)) i i-fits
      (O.worker o) both.0
      (and_then ! (var ! (v 7 18) refl)
      (and_then ! (var ! (v 7 5) refl) (and_then ! (var ! (v 7 19) refl) (no_more !))))
      (λ us same₁ e₃.
      -- [κ₁'s token; what the list leaves; κ₀'s token; κ₂'s token; what board and index leave; true; the plain ones; _19; …]
      gets ! (v 8 16) refl (tt, tt) $
      sets ! (of_opd ! (part ! (v 8 9) 1 refl)) (v 8 0) refl (R.typed 𝓛 (O.rest o) both.1) $
      returns ! (look ! (v 8 0) refl) $ keep ! (span 8 (2 * 20) (2 ∷ 0 ∷ 3 ∷ 6 ∷ 4 ∷ 1 ∷ 5 ∷ 7 ∷ [])) $
      gone ! (
        full _,
        (full _, (full _, (full _, (full _, (full _, (full _, (full _, (full _, (full _, (full _, (full _, (full _, (full _, (full _, (full _, (full _, (full _, (full _, (full _, tt))))))))))))))))))),
      ) $
      three_together ! $
      suffices ! _ (ends (R.val (O.rest o)) (O.rest o) (zs, (us, (js, (tt, (tt, tt))))) (same₀, (same₁, (same₂, (tt, (tt, tt)))))) $
      says ! (follows bs ys index.now f i w o zs us js e₁ e₂ e₃) $ frame ! $ frame ! $
      owned ! R.row (Is R.row) (R.makes 𝓛) (O.rest o) _ both.1 $ done !))))))))))))))))))))))))
