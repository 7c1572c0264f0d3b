-- The walk of every start on the lent list, whatever it brings, whatever its core is, and whatever struct of a record, a floor and a number that
-- hands back:
--     fn start(board: &[u64], records: &mut [Worker], floor: Floor, worker: usize, what: B) -> Outcome {
--         let listed = records.len(); let w = take_at(records, worker); let seat = Seat { floor, listed, worker };
--         let done = CORE(board, seat, w, what); put_at(records, worker, done.worker); Outcome { floor: done.floor, refusal: done.refusal } }
-- Assumes `Logic`, and that the leaves and the core meet their contracts.
use mathlib.Core.Path.{◌≡◌, refl}
use Prim.Native.Nat.{ℕ, ◌*◌}
use mathlib.Core.List.{List, [], ◌∷◌}
use lib.ListN.{set}
use seplogic.Ra.Ura.{Ura}
use mir.Syntax.{Callee, Fn, Sym, Ty, named, erased, imm, mut, w8, w64, ty_int, ty_unit, ty_struct, tnil, tcons, local, value_local, place, field, deref, copy, seq, assign, call, rv_opd, addr_of, aggregate, return}
use base.Logic.{SProp, emp, id⊢}
use base.Fml.{ftrue, flft}
use prog.Memory.{Memory}
use prog.Routine.{Routine}
use prog.Wp.{WpFn, Tables}
use types.Logic.{Logic}
use contract.Monad.{Fun, fact}
use types.Kit.{‵, ◌⊛◌, ◌$◌, ◌∵◌, !, qed, move, keep, use1, split, join, fsplit, fjoin, suffices, frame, done}
use types.Run.{look, init, of_opd, and_then, no_more, returns, enter, alloc1, alloc0, params1, pass1, pass0}
use types.Part.{agg}
use sound.WpLaws.{fm_of}
use mir.Val.{Val, vstruct, vcons, vnil, vint, WT, has_ty}
use lib.Dec.{T}
use denote.RattleType.{RattleType, owns}
use denote.Laws.{Is, Tells}
use denote.Plain.{uint_vals, uint_Tells, uint_row_laws}
use denote.Builtin.{u64, usize, SliceRefOf, SliceRefMutOf}
use denote.Slice.{slice_ty, MutSlice, ShrSlice, mut_slice_vals, shr_slice_vals, mut_slice_Tells, shr_slice_Tells, shr_slice_copy}
use denote.Signature.{plain}
use denote.Steps.{only, owned, nothing}
use denote.Struct.Laws as LL
use denote.Triple.Spec.{Meets, triple_of}
use denote.Triple.Clauses.{Clauses, Ended, closing}
use denote.Triple.Statement.{Triple}
use denote.Triple.Walked.{says, Stays, gave_slice, stay_none, stay_none_slice, Goes-gave_slice, Goes-none, Goes-none_slice}
use denote.Exit.{yes}
use Rattle.turn.specs.declared.Worker.{Worker}
use Rattle.engine.specs.declared.Floor.{Floor}
use Rattle.engine.specs.declared.Seat.{Seat}
use Rattle.engine.specs.Calls.{Started}
use Rattle.floor.specs.Told.{start_told}
use Rattle.engine.specs.Calls.{record_in, seat_in}
use Rattle.floor.specs.Promises.{StartLeft}
use Rattle.turn.specs.contracts.Worker as T
use Rattle.turn.proofs.Worker.TheLaws as T'
use Rattle.engine.specs.contracts.Floor as F
use Rattle.engine.proofs.Floor.TheLaws as F'
use Rattle.engine.specs.contracts.Seat as S
use Rattle.engine.proofs.Seat.TheLaws as S'
use Rattle.floor.specs.contracts.Outcome as N
use Rattle.floor.proofs.Outcome.TheLaws as N'
use Rattle.floor.proofs.Plain.{Plain, still_last, still_silent}
use Rattle.floor.proofs.Walk.{walk_closes, pointer, var, sets, gets, loc, gone, full, span, arg, cited_call, relends, part}
use Rattle.floor.proofs.Records.{row, val, vals, typed, arg_worker, seat_vals, seat_is, seat_typed, arg_seat}
use Rattle.floor.proofs.Leaves.{Takes, Puts, take_call, put_call}
use Rattle.floor.proofs.list.take_at.Symbol as take-def
use Rattle.floor.proofs.list.put_at.Symbol as put-def

-- what the calls of a start say is what the start is
start_is : {B : Type 0} (start : List ℕ → Seat → Worker → B → Started) (bs : List ℕ) (ys : List Worker) (f : Floor) (i : ℕ) (b : B) (w : Worker)
    (o : Started) (us : List Worker)
    → w ≡ record_in ys i → o ≡ start bs (seat_in f ys i) w b → us ≡ set ys i o.worker → StartLeft start bs ys f i b us (start_told o)
start_is start bs ys f i b w o us e₁ e₂ e₃ = record { whole = rw (e₃, e₂, e₁) }

-- ---- what a core hands back: a struct of three fields, the worker's record, the floor and the number of refusal. As the machine has it:
abbrev three_ty : Sym → Ty
three_ty name = ty_struct name (tcons T'.mir (tcons F'.mir (tcons (ty_int w8) tnil)))

abbrev three_val : Started → Val
three_val s = vstruct (vcons (val s.worker) (vcons (LL.val F.the_type F'.the_laws s.floor) (vcons (vint w8 s.refusal) vnil)))

pub record Handed : Type 2 where
  pub row : RattleType
  pub name : Sym
  pub started : row.Denot → Started
  pub tells : Tells row (Is row) (λ o. three_val (started o) ∷ [])
  pub typed : {M : Type 1} {𝓤 : Ura M} (𝓛 : Logic 𝓤) → (o : row.Denot)
      → let v = three_val (started o) in Is row o (v ∷ []) → T (has_ty (three_ty name) v) × WT v
  pub apart : (o : row.Denot) → Is row o (three_val (started o) ∷ [])
      → Is T.the_row (started o).worker (vals (started o).worker)
      × (Is F.the_row (started o).floor (LL.vals F.the_type F'.the_laws (started o).floor)
      × Is N.the_row (start_told (started o)) (LL.vals N.the_type N'.the_laws (start_told (started o))))

module _ (B : Plain) (O : Handed) where
  -- what the core computes
  abbrev pub Core : Type 0
  Core = List ℕ → Seat → Worker → B.row.Denot → Started

  abbrev pub core_ended : Ended
  core_ended = record {
    signature = record {
      lifetimes = 1;
      outlives = [];
      params = SliceRefOf (0 ∷ []) tt (plain (λ _. u64)) (λ _. tt) ∷ plain (λ _. S.the_row) ∷ plain (λ _. row) ∷ plain (λ _. B.row) ∷ [];
      result = plain (λ _. O.row);
    };
    kept = (yes, (yes, (yes, (yes, tt))));
  }

  abbrev pub ended : Ended
  ended = record {
    signature = record {
      lifetimes = 2;
      outlives = [];
      params = SliceRefOf (0 ∷ []) tt (plain (λ _. u64)) (λ _. tt) ∷ SliceRefMutOf (1 ∷ []) tt (plain (λ _. row)) (λ _. tt) ∷ plain
          (λ _. F.the_row) ∷ plain (λ _. usize) ∷ plain (λ _. B.row) ∷ [];
      result = plain (λ _. N.the_row);
    };
    kept = (yes, (yes, (yes, (yes, (yes, tt)))));
  }

  -- the core's contract, and the function's own
  abbrev pub inner : {M : Type 1} (𝓤 : Ura M) → Core → Clauses 𝓤 core_ended
  inner 𝓤 core κs a = record
      { ghost = Unit {0}; requires = λ _. emp 𝓤; ensures = λ _ r e. fact 𝓤 (O.started r ≡ core a.0.now a.1.0 a.1.1.0 a.1.1.1.0) }

  abbrev pub outer : {M : Type 1} (𝓤 : Ura M) → Core → Clauses 𝓤 ended
  outer 𝓤 core κs a = record {
    ghost = Unit {0};
    requires = λ _. emp 𝓤;
    ensures = λ _ r e. fact 𝓤 (StartLeft core a.0.now a.1.0.now a.1.1.0 a.1.1.1.0 a.1.1.1.1.0 e.1.0.now r);
  }

  -- its code, where nm is the core's key
  abbrev pub function : Callee → Fn
  function nm = record {
    lifetimes = 2;
    outlives = [];
    ty_params = [];
    givens = 0;
    params = 5;
    locals = local N'.mir value_local ∷ local (slice_ty (pointer (named 0) imm u64)) value_local ∷ local (slice_ty (pointer (named 1) mut row)) value_local
        ∷ local F'.mir value_local ∷ local (ty_int w64) value_local ∷ local B.ty value_local
        ∷ local (ty_int w64) value_local ∷ local T'.mir value_local ∷ local S'.mir value_local ∷ local (three_ty O.name) value_local
        ∷ local (pointer erased imm row) value_local ∷ local (slice_ty (pointer erased imm row)) value_local
        ∷ local ty_unit value_local ∷ local (pointer erased mut row) value_local ∷ local (slice_ty (pointer erased mut row)) value_local
        ∷ local T'.mir value_local ∷ local F'.mir value_local ∷ [];
    body = seq (assign (place 6 []) (rv_opd (copy (place 2 (field 1 ∷ [])))))
        (seq (assign (place 10 []) (addr_of (place 2 (field 0 ∷ deref T'.mir ∷ []))))
        (seq (assign (place 11 []) (aggregate (copy (place 10 []) ∷ copy (place 2 (field 1 ∷ [])) ∷ [])))
        (seq (call take-def.name (copy (place 11 []) ∷ copy (place 4 []) ∷ []) (place 7 []))
        (seq (assign (place 8 []) (aggregate (copy (place 3 []) ∷ copy (place 6 []) ∷ copy (place 4 []) ∷ [])))
        (seq (call nm (copy (place 1 []) ∷ copy (place 8 []) ∷ copy (place 7 []) ∷ copy (place 5 []) ∷ []) (place 9 []))
        (seq (assign (place 13 []) (addr_of (place 2 (field 0 ∷ deref T'.mir ∷ []))))
        (seq (assign (place 14 []) (aggregate (copy (place 13 []) ∷ copy (place 2 (field 1 ∷ [])) ∷ [])))
        (seq (assign (place 15 []) (rv_opd (copy (place 9 (field 0 ∷ [])))))
        (seq (call put-def.name (copy (place 14 []) ∷ copy (place 4 []) ∷ copy (place 15 []) ∷ []) (place 12 []))
        (seq (assign (place 16 []) (rv_opd (copy (place 9 (field 1 ∷ [])))))
        (seq (assign (place 0 []) (aggregate (copy (place 16 []) ∷ copy (place 9 (field 2 ∷ [])) ∷ []))) return)))))))))));
  }

  abbrev stayed : Stays ended.signature.params ended.kept
  stayed = (
    stay_none_slice (0 ∷ []) tt (plain (λ _. u64)) yes,
    (gave_slice (1 ∷ []) tt (plain (λ _. row)), (stay_none (λ _. F.the_row) yes, (stay_none (λ _. usize) yes, (stay_none (λ _. B.row) yes, tt)))),
  )

  pub start_meets : {M : Type 1} {𝓤 : Ura M} (𝓛 : Logic 𝓤) → (mem : Memory → SProp 𝓤) (run : Routine
      → Fun 𝓤) (𝓣 : Tables 𝓤 𝓛.H) (nm : Callee) (core : Core)
      → Takes 𝓛 mem run 𝓣.C → Triple 𝓤 (𝓣.C nm) (triple_of 𝓛 core_ended.signature (closing 𝓛 core_ended (inner 𝓤 core)))
      → Puts 𝓛 mem run 𝓣.C
      → Meets 𝓛 ended.signature (WpFn 𝓤 𝓛.H 𝓣.C 𝓣.Λ (function nm)) (closing 𝓛 ended (outer 𝓤 core))
  start_meets {𝓤 = 𝓤} 𝓛 mem run 𝓣 nm core takes cores puts = walk_closes 𝓛 ended stayed (
    Goes-none_slice 𝓛 2 (0 ∷ []) tt (plain (λ _. u64)) yes,
    (
      Goes-gave_slice 𝓛 2 1 tt (plain (λ _. row)),
      (
        Goes-none 𝓛 2 (λ _. F.the_row) yes (λ κs x f. refl),
        (Goes-none 𝓛 2 (λ _. usize) yes (λ κs x f. refl), (Goes-none 𝓛 2 (λ _. B.row) yes (λ κs x f. still_silent B.row B.still x f), tt)),
      ),
    ),
  )
      (outer 𝓤 core) (function nm) 𝓣 (λ κs. (shr_slice_vals, (mut_slice_vals, (LL.vals F.the_type F'.the_laws, (uint_vals w64, ((λ x. B.val x ∷ []), tt))))))
      (λ κs. (
        shr_slice_Tells (named 0) κs.0 u64,
        (mut_slice_Tells (named 1) κs.1.0 row, (LL.tells F.the_type F'.the_laws, (uint_Tells w64, (B.tells, tt)))),
      )) (λ κs qs bounds a g are Post ends.
      let bs = a.0.now in let ys = a.1.0.now in let f = a.1.1.0 in let i = a.1.1.1.0 in let b = a.1.1.1.1.0 in
      let v : ℕ → ℕ → ℕ = loc 17 in
      let seat : Seat = seat_in f ys i in
      let sits = seat_is f ys i are.1.1.0 are.1.0.0.1.0 are.1.1.1.0.1 in
      qed 𝓛 ((‵ (flft κs.0 qs.0) ⊛ (‵ (flft κs.1.0 qs.1.0) ⊛ ‵ ftrue)) ∷ ‵ (owns
      (ShrSlice (named 0) κs.0 u64 ∷ MutSlice (named 1) κs.1.0 row ∷ F.the_row ∷ usize ∷ B.row ∷ []) a _) ∷ []) ∵
      enter ! 𝓣.C 𝓣.Λ (function nm) _ _ $
      alloc1 ! (λ l₀. alloc1 ! (λ l₁. alloc1 ! (λ l₂. alloc1 ! (λ l₃. alloc1 ! (λ l₄. alloc1 ! (λ l₅. alloc1 ! (λ l₆. alloc1 ! (λ l₇.
      alloc1 ! (λ l₈. alloc1 ! (λ l₉. alloc1 ! (λ l₁₀. alloc1 ! (λ l₁₁. alloc1 ! (λ l₁₂. alloc1 ! (λ l₁₃. alloc1 ! (λ l₁₄. alloc1 ! (λ l₁₅. alloc1 ! (λ l₁₆. alloc0 ! $ params1 ! $
      pass1 ! (init ! (v 0 1) refl (tt, (tt, (record { fits = are.0.0.1.0 }, tt)))) $
      pass1 ! (init ! (v 0 2) refl (tt, (tt, (record { fits = are.1.0.0.1.0 }, tt)))) $
      pass1 ! (init ! (v 0 3) refl ((LL.lawful F.the_type F'.the_laws 𝓛).typed f _ are.1.1.0).0) $
      pass1 ! (init ! (v 0 4) refl (tt, record { fits = are.1.1.1.0.1 })) $
      pass1 ! (init ! (v 0 5) refl (B.typed 𝓛 b are.1.1.1.1.0)) $ pass0 ! $
      -- [_16; …; _0; …; the tokens; what the parameters own]
      sets ! (of_opd ! (part ! (v 0 2) 1 refl)) (v 0 6) refl
      (tt, record { fits = are.1.0.0.1.0 }) $
      relends ! (v 0 2) (v 0 10) (v 0 11) refl are.1.0.0.1.0 $
      move ! (35 ∷ []) $ fsplit ! $ move ! (1 ∷ []) $ fsplit ! $ move ! (37 ∷ []) $ split ! $ move ! (1 ∷ []) $ split ! $ move ! (3 ∷ 0 ∷ []) $
      -- [what the list owns; κ₁'s token; true; κ₀'s token; what the plain ones own; what the board owns; _16; …]
      take_call ! mem run (fm_of 𝓤 𝓛.H 𝓛.laws 𝓣) takes (named 1) a.1.0 are.1.0.0.1 i are.1.1.1.0.1
      (λ ν. and_then ! (var ! (v 6 11) refl) (and_then ! (var ! (v 6 4) refl) (no_more !))) (λ w w-is e₁.
      gets ! (v 6 7) refl (typed 𝓛 w w-is) $
      sets ! (agg ! (and_then ! (var ! (v 6 3) refl) (and_then ! (var ! (v 6 6) refl) (and_then ! (var ! (v 6 4) refl) (no_more !))))) (v 6 8) refl
      (seat_typed 𝓛 seat sits) $
      move ! (5 ∷ []) $ use1 𝓛 (‵ ((ShrSlice (named 0) κs.0 u64).own_val a.0 (shr_slice_vals a.0)) ⊛ ‵
      ((ShrSlice (named 0) κs.0 u64).own_val a.0 (shr_slice_vals a.0))) ((shr_slice_copy 𝓛 (named 0) κs.0 u64 (uint_row_laws w64)).twice a.0
      (shr_slice_vals a.0)) $ split ! $
      nothing ! $ arg ! B.row (B.makes 𝓛) b _ are.1.1.1.1.0 $ arg_worker ! w w-is $
      arg_seat ! seat sits $ move ! (1 ∷ 0 ∷ []) $ fjoin ! $ move ! (5 ∷ 4 ∷ []) $ join ! $
      join ! $
      cited_call ! (fm_of 𝓤 𝓛.H 𝓛.laws 𝓣) core_ended (inner 𝓤 core) cores (
        ((κs.0, tt), (qs.0, tt), tt, (a.0, (seat, (w, (b, tt)))), (shr_slice_vals a.0, (seat_vals seat, (vals w, (B.val b ∷ [], tt))))),
        tt,
      ) (id⊢ 𝓤 _)
      (‵ (flft κs.0 qs.0) ⊛ ‵ ftrue) refl (λ o. three_val (O.started o)) O.tells (λ r _. O.started r ≡ core bs seat w b)
      (λ r _. refl)
      (and_then ! (var ! (v 5 1) refl) (and_then ! (var ! (v 5 8) refl) (and_then ! (var ! (v 5 7) refl)
      (and_then ! (var ! (v 5 5) refl) (no_more !))))) (λ o _ o_is e₂.
      -- [κ₀'s token and true; nothing; what the board owns; what the list owns; κ₁'s token; what the plain ones own; _16; …]
      let s = O.started o in
      let fields = O.apart o o_is in
      let told_is = fields.1.1 in
      gets ! (v 6 9) refl (O.typed 𝓛 o o_is) $
      relends ! (v 6 2) (v 6 13) (v 6 14) refl are.1.0.0.1.0 $
      sets ! (of_opd ! (part ! (v 6 9) 0 refl)) (v 6 15) refl (typed 𝓛 s.worker fields.0) $
      move ! (3 ∷ 4 ∷ []) $ put_call ! mem run (fm_of 𝓤 𝓛.H 𝓛.laws 𝓣) puts a.1.0 (only (mut_slice_vals a.1.0)) i are.1.1.1.0.1 s.worker fields.0
      (and_then ! (var ! (v 5 14) refl)
      (and_then ! (var ! (v 5 4) refl) (and_then ! (var ! (v 5 15) refl) (no_more !))))
      (λ us same e₃.
      -- [κ₁'s token; what the list leaves; κ₀'s token and true; nothing; what the board owns; what the plain ones own; _16; …]
      gets ! (v 6 12) refl (tt, tt) $
      sets ! (of_opd ! (part ! (v 6 9) 1 refl)) (v 6 16) refl ((LL.lawful F.the_type F'.the_laws 𝓛).typed s.floor _ fields.1.0).0 $
      sets ! (agg ! (and_then ! (var ! (v 6 16) refl)
      (and_then ! (part ! (v 6 9) 2 refl) (no_more !)))) (v 6 0) refl
      ((LL.lawful N.the_type N'.the_laws 𝓛).typed (start_told s) _ told_is).0 $
      returns ! (look ! (v 6 0) refl) $ keep ! (span 6 (2 * 17) (2 ∷ 0 ∷ 1 ∷ 4 ∷ 5 ∷ [])) $
      gone ! (
        full _,
        (full _, (full _, (full _, (full _, (full _, (full _, (full _, (full _, (full _, (full _, (full _, (full _, (full _, (full _, (full _, (full _, tt)))))))))))))))),
      ) $
      -- [κ₀'s token and true; κ₁'s token; what the list leaves; what the board owns; what the plain ones own]
      move ! (2 ∷ 4 ∷ []) $ fjoin ! $ move ! (3 ∷ 0 ∷ []) $ fjoin ! $ move ! (1 ∷ []) $ split ! $ move ! (3 ∷ 1 ∷ []) $ join ! $ move ! (1 ∷ 0 ∷ []) $
      join ! $
      suffices ! _ (ends (LL.val N.the_type N'.the_laws (start_told s)) (start_told s) (tt, (us, (tt, (tt, (still_last B.row B.still b, tt)))))
      (tt, (same, (tt, (tt, (tt, tt)))))) $ says ! (start_is core bs ys f i b w s us e₁ e₂ e₃) $ frame ! $ frame ! $
      owned ! N.the_row (Is N.the_row) (LL.makes N.the_type N'.the_plain 𝓛) (start_told s) _ told_is $ done !)))))))))))))))))))))
