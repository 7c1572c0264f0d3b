-- The walk of every function that goes over the first records of the lent list, whatever its leaf makes of each:
--     fn laps(records: &mut [Worker], x: X, count: usize) {
--         let listed = records.len(); let end = least(count, listed); let mut k = 0;
--         while k < end { LEAF(records, k, x); k += 1; } }
-- where `least` is whatever hands back the smaller of two numbers. The list is lent again for each record. The invariant at k and zs: the first k
-- records are what the leaf makes of them. Assumes `Logic`, and that the leaf and `least` meet their contracts.
use mathlib.Core.Path.{◌≡◌, refl, sym, ◌∙◌}
use Prim.Native.Nat.{ℕ, ◌≤◌, ◌+◌, ◌-◌}
use mathlib.Core.List.{[], ◌∷◌, List}
use lib.ListN.{length, get_or, set}
use mathlib.Core.Bool.{cond}
use lib.Dec.{ltb, ltb→lt, nltb→le, lit<}
use seplogic.Ra.Ura.{Ura}
use mir.Syntax.{Callee, Fn, Body, named, erased, mut, w64, ty_int, ty_unit, ty_bool, local, value_local, place, field, deref, copy, int, skip, seq, assign, call, block, loop, exit, rv_opd, addr_of, aggregate, op2, lt, add, unsigned, opd_unit, return}
use mir.Syntax as mir_of
use mir.Val.{vunit, vint}
use base.Logic.{SProp, emp, id⊢}
use base.Fml.{ftrue, flft}
use prog.Memory.{Memory}
use prog.Routine.{Routine}
use prog.Wp.{Env, WpFn, Tables, after_turn}
use types.Logic.{Logic}
use contract.Monad.{Fun, fact}
use types.Kit.{Item, ‵, ◌⊛◌, at_ret, ◌$◌, ◌∵◌, !, qed, move, drop, keep, split, join, fsplit, fjoin, suffices, frame, done}
use types.Run.{look, init, store, forget, stop, from, lit, unit_lit, of_opd, bin, and_then, no_more, assigns_last, first, blocks, loops, again, exec, returns, enter, alloc1, alloc0, params1, pass1, pass0}
use sound.WpLaws.{fm_of}
use denote.RattleType.{owns}
use denote.Laws.{Is}
use denote.Plain.{uint_vals, uint_Tells, uint_Makes, Nothing-Makes, Nothing}
use denote.Builtin.{usize, SliceRefMutOf}
use denote.Ref.{at_last}
use denote.Slice.{slice_ty, MutSlice, mut_slice_vals, mut_slice_Tells}
use denote.Signature.{plain}
use denote.Steps.{only, owned, nothing}
use denote.Triple.Spec.{Meets, triple_of}
use denote.Triple.Clauses.{Clauses, Ended, closing}
use denote.Triple.Statement.{Triple}
use denote.Triple.Walked.{says, Stays, stay_slice, stay_none, Goes-slice, Goes-none}
use denote.Exit.{yes}
use Rattle.turn.specs.declared.Worker.{Worker}
use Rattle.engine.specs.Calls.{blank}
use Rattle.engine.specs.Firsts.{firsts}
use Rattle.turn.proofs.Worker.TheLaws as T'
use Rattle.engine.proofs.Firsts.{firsts_none}
use Rattle.floor.proofs.Plain.{Plain, still_last, still_silent}
use Rattle.floor.proofs.Walk.{walk_closes, pointer, loc, span, full, bare, stack, gone, var, sets, gets, part, arg, arg_num, cited_call, env_of, tests, relends, Nearer, nearer_wf, nearer, below, next, zero_le}
use Rattle.floor.proofs.Lapping.{lap, all_asked}
use Rattle.floor.proofs.Lend.{lends_again, back_again}
use Rattle.floor.proofs.Records.{row}
use Rattle.floor.proofs.Leaves.{given_call}

-- ---- the smaller of two numbers

abbrev pub least_ended : Ended
least_ended = record {
  signature = record {
    lifetimes = 0;
    outlives = [];
    params = plain (λ _. usize) ∷ plain (λ _. usize) ∷ [];
    result = plain (λ _. usize);
  };
  kept = (yes, (yes, tt));
}

abbrev pub least : {M : Type 1} (𝓤 : Ura M) → Clauses 𝓤 least_ended
least 𝓤 κs a = record {
  ghost = Unit {0};
  requires = λ _. emp 𝓤;
  ensures = λ _ r e. fact 𝓤 (r ≡ cond (ltb a.0 a.1.0) a.0 a.1.0);
}

-- ---- where the loop stands

module _ (g : ℕ → Worker → Worker) where
  -- so many records are done, and the list is this
  abbrev Lap : ℕ → List Worker → Type 0
  Lap n ys = (k : ℕ) × (k ≤ n) × ((zs : List Worker) × (length zs ≡ length ys) × (zs ≡ firsts g k ys))

  -- what is left to do
  abbrev left_of : (n : ℕ) (ys : List Worker) → Lap n ys → ℕ
  left_of n ys t = n - t.0

module _ (X : Plain) (g : X.row.Denot → ℕ → Worker → Worker) where
  abbrev pub leaf_ended : Ended
  leaf_ended = record {
    signature = record {
      lifetimes = 1;
      outlives = [];
      params = SliceRefMutOf (0 ∷ []) tt (plain (λ _. row)) (λ _. tt) ∷ plain (λ _. usize) ∷ plain (λ _. X.row) ∷ [];
      result = plain (λ _. Nothing);
    };
    kept = (yes, (yes, (yes, tt)));
  }

  abbrev pub ended : Ended
  ended = record {
    signature = record {
      lifetimes = 1;
      outlives = [];
      params = SliceRefMutOf (0 ∷ []) tt (plain (λ _. row)) (λ _. tt) ∷ plain (λ _. X.row) ∷ plain (λ _. usize) ∷ [];
      result = plain (λ _. Nothing);
    };
    kept = (yes, (yes, (yes, tt)));
  }

  -- the leaf's contract, and the function's own
  abbrev pub leaf : {M : Type 1} (𝓤 : Ura M) → Clauses 𝓤 leaf_ended
  leaf 𝓤 κs a = record {
    ghost = Unit {0};
    requires = λ _. emp 𝓤;
    ensures = λ _ r e. fact 𝓤 (e.0.now ≡ set a.0.now a.1.0 (g a.1.1.0 a.1.0 (get_or a.0.now a.1.0 blank)));
  }

  abbrev pub whole : {M : Type 1} (𝓤 : Ura M) → Clauses 𝓤 ended
  whole 𝓤 κs a = record {
    ghost = Unit {0};
    requires = λ _. emp 𝓤;
    ensures = λ _ r e. fact 𝓤 (e.0.now ≡ firsts (g a.1.0) a.1.1.0 a.0.now);
  }

  -- its code, where nm is the leaf's key and nm₀ that of `least`
  abbrev lap_body : Callee → Body
  lap_body nm =
      seq (assign (place 7 []) (op2 (lt unsigned) (copy (place 6 [])) (copy (place 5 []))))
      (seq (mir_of.cond (copy (place 7 [])) skip (exit 1))
      (seq (assign (place 9 []) (addr_of (place 1 (field 0 ∷ deref T'.mir ∷ []))))
      (seq (assign (place 10 []) (aggregate (copy (place 9 []) ∷ copy (place 1 (field 1 ∷ [])) ∷ [])))
      (seq (call nm (copy (place 10 []) ∷ copy (place 6 []) ∷ copy (place 2 []) ∷ []) (place 8 []))
      (assign (place 6 []) (op2 (add unsigned) (copy (place 6 [])) (int w64 1)))))))

  abbrev pub function : Callee → Callee → Fn
  function nm₀ nm = record {
    lifetimes = 1;
    outlives = [];
    ty_params = [];
    givens = 0;
    params = 3;
    locals = local ty_unit value_local ∷ local (slice_ty (pointer (named 0) mut row)) value_local ∷ local X.ty value_local
        ∷ local (ty_int w64) value_local ∷ local (ty_int w64) value_local ∷ local (ty_int w64) value_local ∷ local (ty_int w64) value_local
        ∷ local ty_bool value_local ∷ local ty_unit value_local ∷ local (pointer erased mut row) value_local
        ∷ local (slice_ty (pointer erased mut row)) value_local ∷ [];
    body = seq (assign (place 4 []) (rv_opd (copy (place 1 (field 1 ∷ [])))))
        (seq (call nm₀ (copy (place 3 []) ∷ copy (place 4 []) ∷ []) (place 5 []))
        (seq (assign (place 6 []) (rv_opd (int w64 0)))
        (seq (block (loop (lap_body nm))) (seq (assign (place 0 []) (rv_opd opd_unit)) return))));
  }

  abbrev stayed : Stays ended.signature.params ended.kept
  stayed = (stay_slice (0 ∷ []) tt (plain (λ _. row)), (stay_none (λ _. X.row) yes, (stay_none (λ _. usize) yes, tt)))

  pub laps_meet : {M : Type 1} {𝓤 : Ura M} (𝓛 : Logic 𝓤) → (mem : Memory → SProp 𝓤) (run : Routine → Fun 𝓤)
      (𝓣 : Tables 𝓤 𝓛.H) (nm₀ nm : Callee)
      → Triple 𝓤 (𝓣.C nm₀) (triple_of 𝓛 least_ended.signature (closing 𝓛 least_ended (least 𝓤)))
      → Triple 𝓤 (𝓣.C nm) (triple_of 𝓛 leaf_ended.signature (closing 𝓛 leaf_ended (leaf 𝓤)))
      → Meets 𝓛 ended.signature (WpFn 𝓤 𝓛.H 𝓣.C 𝓣.Λ (function nm₀ nm)) (closing 𝓛 ended (whole 𝓤))
  unfolding after_turn
  laps_meet {𝓤 = 𝓤} 𝓛 mem run 𝓣 nm₀ nm leasts leaves =
      walk_closes 𝓛 ended stayed (
        Goes-slice 𝓛 1 0 tt (plain (λ _. row)),
        (Goes-none 𝓛 1 (λ _. X.row) yes (λ κs. still_silent X.row X.still), (Goes-none 𝓛 1 (λ _. usize) yes (λ κs x f. refl), tt)),
      )
      (whole 𝓤) (function nm₀ nm) 𝓣 (λ κs. (mut_slice_vals, ((λ x. X.val x ∷ []), (uint_vals w64, tt))))
      (λ κs. (mut_slice_Tells (named 0) κs.0 row, (X.tells, (uint_Tells w64, tt)))) (λ κs qs bounds a g' are Post ends.
      let ys = a.0.now in let x = a.1.0 in let x-is = are.1.0 in
      let n = a.1.1.0 in let n-fits = are.1.1.0.1 in let v : ℕ → ℕ → ℕ = loc 11 in
      qed 𝓛 ((‵ (flft κs.0 qs.0) ⊛ ‵ ftrue) ∷ ‵ (owns (MutSlice (named 0) κs.0 row ∷ X.row ∷ usize ∷ []) a _) ∷ []) ∵
      enter ! 𝓣.C 𝓣.Λ (function nm₀ nm) _ _ $
      alloc1 ! (λ l₀. alloc1 ! (λ l₁. alloc1 ! (λ l₂. alloc1 ! (λ l₃. alloc1 ! (λ l₄. alloc1 ! (λ l₅. alloc1 ! (λ l₆. alloc1 ! (λ l₇. alloc1 ! (λ l₈.
      alloc1 ! (λ l₉. alloc1 ! (λ l₁₀. alloc0 ! $ params1 ! $
      pass1 ! (init ! (v 0 1) refl (tt, (tt, (record { fits = are.0.0.1.0 }, tt)))) $ pass1 ! (init ! (v 0 2) refl (X.typed 𝓛 x x-is)) $
      pass1 ! (init ! (v 0 3) refl (tt, record { fits = n-fits })) $ pass0 ! $
      sets ! (of_opd ! (part ! (v 0 1) 1 refl)) (v 0 4) refl (tt, record { fits = are.0.0.1.0 }) $
      nothing ! $ arg_num ! (length ys) are.0.0.1.0 $ arg_num ! n n-fits $ nothing ! $ join ! $
      cited_call ! (fm_of 𝓤 𝓛.H 𝓛.laws 𝓣) least_ended (least 𝓤) leasts
      ((tt, tt, tt, (n, (length ys, tt)), (uint_vals w64 n, (uint_vals w64 (length ys), tt))), tt) (id⊢ 𝓤 _) (‵ ftrue) refl (vint w64) (uint_Tells w64)
      (λ m _. m ≡ cond (ltb n (length ys)) n (length ys)) (λ m _. refl) (and_then ! (var ! (v 1 3) refl) (and_then ! (var ! (v 1 4) refl) (no_more !)))
      (λ m _ m-is least-is. let m-fits = m-is.1 in
      gets ! (v 2 5) refl (tt, record { fits = m-fits }) $ drop ! $ drop ! $
      sets ! (of_opd ! (lit ! tt)) (v 0 6) refl (tt, record { fits = lit< tt }) $
      -- [_10; …; _0; …; the token; what the parameters own]
      move ! (23 ∷ []) $ fsplit ! $ move ! (24 ∷ []) $ split ! $ keep ! (span 4 22 (0 ∷ 2 ∷ [])) $
      let En : Env 𝓤 𝓛.H = env_of (function nm₀ nm).locals (l₀ ∷ l₁ ∷ l₂ ∷ l₃ ∷ l₄ ∷ l₅ ∷ l₆ ∷ l₇ ∷ l₈ ∷ l₉ ∷ l₁₀ ∷ []) in
      let I : Lap (g x) m ys
      → List (Item 𝓤) = λ t. stack 𝓤 En (
        bare,
        (
          full (only (mut_slice_vals a.0)),
          (
            full (X.val x),
            (full (vint w64 n), (full (vint w64 (length ys)), (full (vint w64 m), (full (vint w64 t.0), (bare, (bare, (bare, (bare, tt)))))))),
          ),
        ),
      ) (‵ (flft κs.0 qs.0) ∷ ‵ ((MutSlice (named 0) κs.0 row).own_val (at_last a.0 t.2.0) (mut_slice_vals a.0)) ∷ []) in
      first ! $ blocks ! $ loops ! 𝓣 (Nearer (left_of (g x) m ys)) (nearer_wf (left_of (g x) m ys)) I (λ t. let k = t.0 in let zs = t.2.0 in let long = t.2.1 in
      -- [_10; …; _0; …; κ's token; what the list owns]
      sets ! (bin ! (var ! (v 0 6) refl) (var ! (v 0 5) refl) tt) (v 0 7) refl (tt, tt) $
      tests ! (var ! (v 0 7) refl)
      (λ less. let l = ltb→lt k m less in
      let k-fits = below m k m-fits t.1 in let more-fits = below m (k + 1) m-fits (next m k l) in
      relends ! (v 0 1) (v 0 9) (v 0 10) refl are.0.0.1.0 $
      move ! (23 ∷ 22 ∷ []) $ lends_again ! tt row (named 0) (named 0) a.0 zs (λ ν δ.
      move ! (1 ∷ 0 ∷ []) $
      given_call ! (fm_of 𝓤 𝓛.H 𝓛.laws 𝓣) (plain (λ _. usize) ∷ plain (λ _. X.row) ∷ []) (yes, (yes, tt)) (leaf 𝓤) leaves (k, (x, tt))
      (uint_vals w64 k, (X.val x ∷ [], tt)) (qed 𝓛 [] ∵ nothing ! $ arg ! X.row (X.makes 𝓛) x _ x-is $ arg_num ! k k-fits $ done !)
      (λ us. us ≡ set zs k (g x k (get_or zs k blank))) (record { ref_ptr = a.0.ref_ptr; ghost_name = δ; now = zs }) (only (mut_slice_vals a.0))
      (tt, id⊢ 𝓤 _, λ r ws. refl)
      (and_then ! (var ! (v 2 10) refl) (and_then ! (var ! (v 2 6) refl) (and_then ! (var ! (v 2 2) refl) (no_more !)))) (λ us same e.
      -- [ν's token; what the loan leaves; what is lent again; _10; …]
      gets ! (v 3 8) refl (tt, tt) $ move ! (1 ∷ []) $ fsplit ! $ move ! (1 ∷ []) $ drop ! $ move ! (1 ∷ 2 ∷ 0 ∷ []) $
      back_again ! tt row (named 0) a.0 zs us are.0.0.1 long same $
      assigns_last ! (bin ! (var ! (v 2 6) refl) (lit ! tt) (record { fits = more-fits })) (from ! (stop !))
      (store ! (v 2 6) refl (tt, record { fits = more-fits })) $
      forget ! (v 2 7) refl $ forget ! (v 2 8) refl $ forget ! (v 2 9) refl $ forget ! (v 2 10) refl $
      keep ! (span 2 22 (1 ∷ 0 ∷ [])) $
      again ! (Nearer (left_of (g x) m ys)) I t (k + 1, next m k l, (us, same ∙ long, lap (g x) k ys zs us t.2.2 e)) (nearer m k l))))
      (λ left. exec ! 𝓣.C 𝓣.Λ En (seq (assign (place 0 []) (rv_opd opd_unit)) return) (at_ret En Post) $
      sets ! (of_opd ! (unit_lit !)) (v 0 0) refl (tt, tt) $
      returns ! (look ! (v 0 0) refl) $
      gone ! (full _, (full _, (full _, (full _, (full _, (full _, (full _, (full _, (bare, (bare, (bare, tt))))))))))) $
      suffices ! _ (ends vunit tt (zs, (still_last X.row X.still x, (tt, tt))) (long, (tt, (tt, tt)))) $
      says ! (all_asked (g x) n m k ys zs least-is t.1 (nltb→le k m left) t.2.2) $
      nothing ! $ move ! (1 ∷ 0 ∷ []) $ join ! $ frame ! $
      nothing ! $ owned ! usize (Is usize) (uint_Makes 𝓛 w64) n _ (refl, n-fits) $ fjoin ! $
      owned ! X.row (Is X.row) (X.makes 𝓛) x _ x-is $ fjoin ! $
      move ! (1 ∷ 0 ∷ []) $ fjoin ! $ frame ! $ owned ! Nothing (Is Nothing) (Nothing-Makes 𝓛) tt _ refl $ done !))
      (0, zero_le m, (ys, refl, sym (firsts_none (g x) ys))))))))))))))))
