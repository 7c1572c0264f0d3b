-- What every walk of a function's code shares, whatever the function. Assumes `Logic`.
--     walk_closes      a walk from what the types own at entry to `walk_of`'s `post` gives the contract, for a function with no `requires`
--     pointer          the type of a slice's pointer, as the code has it
--     loc, span        places in the context
--     gone             all locals are freed, whatever they hold: `full` or `bare` for each, in its order
--     var, sets, gets  a whole local is read, set, and given a call's result
--     part, relends    a field of a struct in a local is read; a slice in a local is lent on
--     arg, arg_num     plain arguments, from the last to the first, onto what `nothing` leaves
--     cited_call       a call of any callee with no `requires` whose `ensures` is a fact
--     stack, env_of, tests      the context of a loop, written once from the function's locals; and the test of a `while`
--     Nearer, nearer_wf        that a loop comes to an end, by a number that falls
--     nearer, below, next, zero_le     the same for a loop that counts up to a number
use mathlib.Core.Path.{◌≡◌, refl, sym, ap, subst}
use mathlib.Core.WellFounded.InvImage
use mathlib.Core.WellFounded.{WellFounded}
use lib.WfN.{lt-wf_rel}
use mathlib.Core.Option.{Option, none, some as just}
use Prim.Native.Nat.{ℕ, zero, suc, ◌+◌, ◌-◌, ◌<◌, ◌≤◌, ◌^◌, ◌*◌}
use native.Mathlib.Omega.{arith}
use mathlib.Core.List.{List, [], ◌∷◌}
use seplogic.Ra.Ura.{Ura}
use base.Fraction.{full_share}
use lib.Dec.{T}
use mir.Syntax.{Callee, Sym, Ty, Tys, ty_struct, Step as PStep, field, deref, addr_of, aggregate, ty_int, Fn, Place, Opd as Operand, Body, skip, seq, assign, call, cond, copy, place, Rv as RValue, exit, Local, local, w64, Lifetime, Mutability, ty_ref}
use mathlib.Core.Bool.{Bool, not}
use mir.Val.{Val, Vals, vptr, vstruct, vbool, WT, has_ty}
use base.Logic.{SProp, ent, sep, emp, via, fst∗, id⊢, mono_l, mono_r}
use sound.Laws.{∗emp}
use base.Fml.{Share, Fml, fsep, fat, froom, fdies}
use prog.Wp.{exits, Env, Spot, spot_of, Calls, Loops, WpFn, Tables, release}
use types.Logic.{Logic, sem}
use contract.Monad.{fact}
use contract.Lifetimes.{Lfts, Shares, AllOutlive}
use types.Kit.{Item, ‵, raw, some, later, mean, ⋆, nth, put, ◌⊛◌, Post, post, prop, Goal, aim, frees, runs, lands, Seq, Step, step, ◌$◌, ◌∵◌, !, qed, move, use1, recast, split, join, pick, fjoin, await, by, frame, done}
use types.Run.{Walks, Opd, Opds, Rv, look, init, stop, hop, fld, from, load, addr, and_then, no_more, assigns, land, first, branches, skips, jumps}
use types.Part.{Part, agg, whole, sub, look_in}
use mir.Fields.{get_v}
use prog.Memory.{field_at}
use sound.WpLaws.{FmC, WpFn-mono}
use denote.Memory.{pointee}
use denote.Slice.{slice_ty, slice_val}
use denote.RattleType.{RattleType, flat, owns}
use denote.Laws.{Is, Makes, Are, Ises, Spells, Tells, Tellss, valss, shows}
use denote.Steps.{only, facts, heard, owned}
use denote.Plain.{uint_vals, uint_Makes}
use denote.Builtin.{usize}
use denote.Signature.{Signature, types_at, type_at}
use denote.Triple.Entry.{Args, Res, alive, on_entry}
use denote.Triple.Spec.{Meets, triple_of}
use denote.Triple.Statement.{Triple}
use denote.Triple.Call.{calls_from}
use denote.Triple.Clauses.{Clauses, Ended, Lasts, lasts, at_exit, closing}
use denote.Triple.Walked.{Stays, Fit, Ending, walk_of, ends_at, AllGo, walked, walk_Meets}

module _ {M : Type 1} {𝓤 : Ura M} (𝓛 : Logic 𝓤) where
  open 𝓛 use {H}

  module _ (T : Ended) (hs : Stays T.signature.params T.kept) (gs : AllGo 𝓛 T.signature.lifetimes T.signature.params
      T.kept hs) (c : Clauses 𝓤 T) (f : Fn) (𝓣 : Tables 𝓤 H) where
    abbrev S : Signature
    S = T.signature

    pub walk_closes : (sp : (κs : Lfts S.lifetimes) → Spells (types_at S.params κs)) → ((κs : Lfts S.lifetimes)
        → Tellss (types_at S.params κs) (Ises (types_at S.params κs)) (sp κs))
        → ((κs : Lfts S.lifetimes) (qs : Shares S.lifetimes) (bounds : AllOutlive S.lifetimes S.outlives κs) (a : Args S κs)
        (g : (c κs a).ghost)
        → Are (types_at S.params κs) (Ises (types_at S.params κs)) a (valss (types_at S.params κs) (sp κs) a) → (Post : Val → SProp 𝓤)
        → ((v : Val) (r : Res S κs) (ws : Lasts T κs a) → Fit T hs κs a ws
        → ent 𝓤 (Ending 𝓛 T hs c ((κs, qs, bounds, a, valss (types_at S.params κs) (sp κs) a), g) v r ws) (Post v))
        → ent 𝓤 (on_entry 𝓛 S κs qs a (valss (types_at S.params κs) (sp κs) a)) (WpFn 𝓤 H 𝓣.C 𝓣.Λ f
        (flat (types_at S.params κs) (valss (types_at S.params κs) (sp κs) a)) Post))
        → Meets 𝓛 S (WpFn 𝓤 H 𝓣.C 𝓣.Λ f) (closing 𝓛 T c)
    walk_closes sp tl k = walk_Meets 𝓛 T hs gs c (WpFn 𝓤 H 𝓣.C 𝓣.Λ f) (WpFn-mono 𝓤 H 𝓛.laws 𝓣 f)
        (walked 𝓛 T hs c (WpFn 𝓤 H 𝓣.C 𝓣.Λ f) sp tl (λ κs qs bounds a g are.
        let y : (walk_of 𝓛 T hs c).Ghost = ((κs, qs, bounds, a, valss (types_at S.params κs) (sp κs) a), g) in
        via 𝓤 _ (fst∗ 𝓤 _ ((c κs a).requires g)) (k κs qs bounds a g are ((walk_of 𝓛 T hs c).post y) (ends_at 𝓛 T hs c y))))

-- the type of a slice's pointer
abbrev pub pointer : Lifetime → Mutability → RattleType → Ty
pointer ℓ m R = ty_ref ℓ m (pointee R.written)

-- the place in the context of local k, of n locals, where f entries stand before the locals
abbrev pub loc : ℕ → ℕ → ℕ → ℕ
loc n f k = f + 2 * (n - suc k)

-- the positions from m on, n of them, and then those of the list: for `keep`
abbrev pub span : ℕ → ℕ → List ℕ → List ℕ
span m zero ps = ps
span m (suc n) ps = m ∷ span (suc m) n ps

-- ---- the locals are freed
abbrev cell : Ty × ℕ → Option Val → Fml
cell e none = froom e.0 e.1 zero
cell e (just v) = fat full_share e.0 e.1 zero v

abbrev pub full : Val → Option Val
full v = just v

abbrev pub bare : Option Val
bare = none

abbrev Holds : List (Ty × ℕ) → Type 0
Holds [] = Unit {0}
Holds (e ∷ E) = Option Val × Holds E

abbrev pub stack : {M : Type 1} (𝓤 : Ura M) (E : List (Ty × ℕ)) → Holds E → List (Item 𝓤) → List (Item 𝓤)
stack 𝓤 [] hs Γ = Γ
stack 𝓤 (e ∷ E) hs Γ = stack 𝓤 E hs.1 (‵ (cell e hs.0) ∷ ‵ (fdies e.0 e.1) ∷ Γ)

module _ {M : Type 1} {𝓤 : Ura M} (𝓛 : Logic 𝓤) where
  open 𝓛 use {H}

  as_room : (e : Ty × ℕ) (h : Option Val) (Γ : List (Item 𝓤)) (K : SProp 𝓤) → ent 𝓤 (⋆ 𝓛 Γ) K
      → ent 𝓤 (⋆ 𝓛 (‵ (cell e h) ∷ ‵ (fdies e.0 e.1) ∷ Γ)) (sep 𝓤 (sep 𝓤 (H.room e.0 e.1 zero) (H.dies e.0 e.1)) K)
  as_room e none Γ K k = qed 𝓛 (‵ (froom e.0 e.1 zero) ∷ ‵ (fdies e.0 e.1) ∷ Γ) ∵ join ! $ frame ! $ by ! k
  as_room e (just v) Γ K k = qed 𝓛 (‵ (fat full_share e.0 e.1 zero v) ∷ ‵ (fdies e.0 e.1) ∷ Γ) ∵
      use1 𝓛 (‵ (froom e.0 e.1 zero)) (𝓛.laws.at_room e.0 e.1 zero v) $ join ! $ frame ! $ by ! k

  sinks : (E : List (Ty × ℕ)) (P K : SProp 𝓤) → ent 𝓤 (release 𝓤 H E (sep 𝓤 P K)) (sep 𝓤 P (release 𝓤 H E K))
  sinks [] P K = id⊢ 𝓤 _
  sinks (e ∷ E) P K =
      let X : SProp 𝓤 = sep 𝓤 (H.room e.0 e.1 zero) (H.dies e.0 e.1) in
      qed 𝓛 (raw X ∷ raw (release 𝓤 H E (sep 𝓤 P K)) ∷ []) ∵ move ! (1 ∷ []) $ use1 𝓛 (raw P ⊛ raw (release 𝓤 H E K)) (sinks E P K) $ split ! $
      frame ! $ move ! (1 ∷ 0 ∷ []) $ done !

  all_gone : (E : List (Ty × ℕ)) (hs : Holds E) (Γ : List (Item 𝓤)) (K : SProp 𝓤) → ent 𝓤 (⋆ 𝓛 Γ) K
      → ent 𝓤 (⋆ 𝓛 (stack 𝓤 E hs Γ)) (release 𝓤 H E K)
  all_gone [] hs Γ K k = k
  all_gone (e ∷ E) hs Γ K k =
      let X : SProp 𝓤 = sep 𝓤 (H.room e.0 e.1 zero) (H.dies e.0 e.1) in
      via 𝓤 (release 𝓤 H E (sep 𝓤 X K)) (all_gone E hs.1 (‵ (cell e hs.0) ∷ ‵ (fdies e.0 e.1) ∷ Γ) (sep 𝓤 X K) (as_room e hs.0 Γ K k))
      (sinks E X K)

module _ {M : Type 1} {𝓤 : Ura M} {𝓛 : Logic 𝓤} {K : Type 0} {Γ : List (Item 𝓤)} {G : Goal 𝓤 𝓛.H} {E : Env 𝓤 𝓛.H} where
  open 𝓛 use {H}

  pub gone : K → (hs : Holds E) → Step K 𝓛 Γ G (stack 𝓤 E hs Γ) (frees E G)
  gone t hs = step (λ s. record { prf = all_gone 𝓛 E hs Γ (aim 𝓤 H G) s.prf })

-- ---- statements on whole locals: n is the local's place in the context, and which local it is the code says
module _ {M : Type 1} {𝓤 : Ura M} {𝓛 : Logic 𝓤} {K : Type 0} {Γ : List (Item 𝓤)} {E : Env 𝓤 𝓛.H} where
  open 𝓛 use {H}

  pub var : K → (n : ℕ) {i : ℕ} {q : Share} {v : Val} → nth 𝓛 n Γ ≡ ‵ (fat q (spot_of 𝓤 H E i).0 (spot_of 𝓤 H E i).1 zero v)
      → Opd K 𝓛 Γ E (copy (place i [])) v
  var t n e = load t (from t (stop t)) (look t n e)

  module _ {C : Calls 𝓤 H} {Λ : Loops 𝓤 H} {p : Post 𝓤 H} {i : ℕ} {rest : Body} {v : Val} where
    pub sets : K → {rv : RValue} → Rv K 𝓛 Γ E rv v → (n : ℕ) → nth 𝓛 n Γ ≡ ‵ (froom (spot_of 𝓤 H E i).0 (spot_of 𝓤 H E i).1 zero)
        → T (has_ty (spot_of 𝓤 H E i).0 v) × WT v
        → Step K 𝓛 (put 𝓛 n (‵ (fat full_share (spot_of 𝓤 H E i).0 (spot_of 𝓤 H E i).1 zero v)) Γ) (runs C Λ E rest p) Γ
        (runs C Λ E (seq (assign (place i []) rv) rest) p)
    sets t r n e wt = assigns t r (from t (stop t)) (init t n e wt)

    pub gets : K → (n : ℕ) → nth 𝓛 n Γ ≡ ‵ (froom (spot_of 𝓤 H E i).0 (spot_of 𝓤 H E i).1 zero) → T (has_ty (spot_of 𝓤 H E i).0 v) × WT v
        → Step K 𝓛 (put 𝓛 n (‵ (fat full_share (spot_of 𝓤 H E i).0 (spot_of 𝓤 H E i).1 zero v)) Γ) (runs C Λ E rest p) Γ
        (lands C Λ E (place i []) v rest p)
    gets t n e wt = land t (from t (stop t)) (init t n e wt)

-- ---- parts of locals. e says where the locals stand and what they hold, in one equation, which computes: `refl` proves it
module _ {M : Type 1} {𝓤 : Ura M} {𝓛 : Logic 𝓤} {K : Type 0} where
  in_item : {x y : Item 𝓤} {q : Share} {τ : Ty} {b o : ℕ} {v : Val} {back : Val → Item 𝓤}
      → x ≡ y → Part K 𝓛 y q τ b o v back → Part K 𝓛 x q τ b o v back
  in_item {x} {y} {q} {τ} {b} {o} {v} {back} e = subst (λ (z : Item 𝓤). Part K 𝓛 z q τ b o v back) (sym e)

module _ {M : Type 1} {𝓤 : Ura M} {𝓛 : Logic 𝓤} {K : Type 0} {Γ : List (Item 𝓤)} {E : Env 𝓤 𝓛.H} where
  open 𝓛 use {H}

  at_spot : {sp sp' sp'' : Spot 𝓤 H} {st : List PStep} → sp ≡ sp' → Walks K 𝓛 Γ E sp' st sp'' → Walks K 𝓛 Γ E sp st sp''
  at_spot {sp} {sp'} {sp''} {st} e = subst (λ (z : Spot 𝓤 H). Walks K 𝓛 Γ E z st sp'') (sym e)

  -- field k of a struct, which is in the local at the place n of the context
  pub part : K → (n k : ℕ) {i : ℕ} {q : Share} {ν : Sym} {τs : Tys} {b : ℕ} {vs : Vals} {τ : Ty} {d : ℕ}
      → ◌≡◌ {A = Spot 𝓤 H × Item 𝓤 × Option (Ty × ℕ)} (spot_of 𝓤 H E i, nth 𝓛 n Γ, field_at zero τs k)
      ((ty_struct ν τs, b, zero), ‵ (fat q (ty_struct ν τs) b zero (vstruct vs)), just (τ, d))
      → Opd K 𝓛 Γ E (copy (place i (field k ∷ []))) (get_v vs k)
  part t n k e =
      load t (from t (at_spot (λ z. (e z).0) (fld t (λ z. (e z).2) (stop t))))
      (look_in t n (in_item (λ z. (e z).1) (sub t k (λ z. (e z).2) (whole t))))

module _ {M : Type 1} {𝓤 : Ura M} {𝓛 : Logic 𝓤} {K : Type 0} {Γ : List (Item 𝓤)} {E : Env 𝓤 𝓛.H} where
  -- the slice in the local at n is lent on: its pointer goes into the one at m, and pointer and length into the one at l
  open 𝓛 use {H}

  pub relends : K → (n m l : ℕ) {i j k : ℕ} {C : Calls 𝓤 H} {Λ : Loops 𝓤 H} {p : Post 𝓤 H} {rest : Body} {q : Share} {ℓ ℓ' : Lifetime}
      {μ μ' : Mutability} {ρ ρ' σ : Ty} {b b₁ b₂ : ℕ} {at : ℕ × ℕ} {len : ℕ}
      → let slice = ‵ (fat q (slice_ty (ty_ref ℓ μ ρ)) b zero (slice_val at len)) in
      let ptr = ‵ (fat full_share (ty_ref ℓ' μ' ρ') b₁ zero (vptr at.0 at.1)) in
      let Γ₁ = put 𝓛 m ptr Γ in
      ◌≡◌ {A = (Spot 𝓤 H × Spot 𝓤 H × Spot 𝓤 H) × (Item 𝓤 × Item 𝓤) × (Item 𝓤 × Item 𝓤 × Item 𝓤)}
      ((spot_of 𝓤 H E i, spot_of 𝓤 H E j, spot_of 𝓤 H E k), (nth 𝓛 n Γ, nth 𝓛 m Γ), (nth 𝓛 n Γ₁, nth 𝓛 m Γ₁, nth 𝓛 l Γ₁)) (
        ((slice_ty (ty_ref ℓ μ ρ), b, zero), (ty_ref ℓ' μ' ρ', b₁, zero), (slice_ty (ty_ref ℓ' μ' ρ'), b₂, zero)),
        (slice, ‵ (froom (ty_ref ℓ' μ' ρ') b₁ zero)),
        (slice, ptr, ‵ (froom (slice_ty (ty_ref ℓ' μ' ρ')) b₂ zero)),
      )
      → len < 2 ^ 64
      → Step K 𝓛 (put 𝓛 l (‵ (fat full_share (slice_ty (ty_ref ℓ' μ' ρ')) b₂ zero (slice_val at len))) Γ₁) (runs C Λ E rest p)
      Γ (runs C Λ E (seq (assign (place j []) (addr_of (place i (field 0 ∷ deref σ ∷ [])))) (seq
      (assign (place k []) (aggregate (copy (place j []) ∷ copy (place i (field 1 ∷ [])) ∷ []))) rest)) p)
  relends t n m l e fits = step (λ s.
      assigns t (addr t (from t (at_spot
      (λ z. (e z).0.0) (fld t refl (hop t (look_in t n (in_item (λ z. (e z).1.0) (sub t 0 refl (whole t)))) (stop t))))))
      (from t (at_spot (λ z. (e z).0.1) (stop t))) (init t m (λ z. (e z).1.1) (tt, tt)) $
      assigns t (agg t (and_then t (load t (from t (at_spot (λ z. (e z).0.1) (stop t))) (look t m (λ z. (e z).2.1)))
      (and_then t (part t n 1 (λ z. ((e z).0.0, (e z).2.0, just (ty_int w64, 8)))) (no_more t)))) (from t (at_spot (λ z. (e z).0.2) (stop t)))
      (init t l (λ z. (e z).2.2) (tt, (tt, (record { fits = fits }, tt)))) $ s)

-- ---- an argument of plain data, which is owned for nothing, before the arguments that are there
module _ {M : Type 1} {𝓤 : Ura M} {𝓛 : Logic 𝓤} {K : Type 0} {Γ : List (Item 𝓤)} {G : Goal 𝓤 𝓛.H} {P : Fml} where
  pub arg : K → (R : RattleType) → Makes 𝓛 R (Is R) → (x : R.Denot) (vs : List Val) → Is R x vs
      → Step K 𝓛 (‵ (fsep (R.own_val x vs) P) ∷ Γ) G (‵ P ∷ Γ) G
  arg t R makes x vs is = step (λ s. owned t R (Is R) makes x vs is $ fjoin t $ s)

  pub arg_num : K → (n : ℕ) → n < 2 ^ 64 → Step K 𝓛 (‵ (fsep (usize.own_val n (uint_vals w64 n)) P) ∷ Γ) G (‵ P ∷ Γ) G
  arg_num t n fits = arg t usize (uint_Makes 𝓛 w64) n _ (refl, fits)

-- ---- a call
module _ {M : Type 1} {𝓤 : Ura M} {𝓛 : Logic 𝓤} {K : Type 0} {Γ : List (Item 𝓤)} {E : Env 𝓤 𝓛.H} {C : Calls 𝓤 𝓛.H}
    {Λ : Loops 𝓤 𝓛.H} {q : Post 𝓤 𝓛.H} {f : Callee} {xs : List Operand} {d : Place} {rest : Body} where
  open 𝓛 use {H}

  pub cited_call : K → FmC 𝓤 H 𝓛.laws C → (T : Ended) (c : Clauses 𝓤 T) → Triple 𝓤 (C f) (triple_of 𝓛 T.signature (closing 𝓛 T c))
      → (y : (triple_of 𝓛 T.signature (closing 𝓛 T c)).Ghost)
      → ent 𝓤 (emp 𝓤) ((c y.0.0 y.0.3).requires y.1) → (tok : Item 𝓤) → mean 𝓛 tok ≡ alive 𝓛 T.signature y.0.0 y.0.1
      → (spell : Res T.signature y.0.0 → Val) → Tells (type_at T.signature.result y.0.0) (Is (type_at T.signature.result y.0.0))
      (λ r. spell r ∷ [])
      → (φ : Res T.signature y.0.0 → Lasts T y.0.0 y.0.3 → Type 0)
      → ((r : Res T.signature y.0.0) (ws : Lasts T y.0.0 y.0.3)
      → (c y.0.0 y.0.3).ensures y.1 r (at_exit T y.0.0 y.0.3 ws) ≡ fact 𝓤 (φ r ws))
      → Opds K 𝓛 ((tok ⊛ ‵ (owns (types_at T.signature.params y.0.0) y.0.3 y.0.4)) ∷ Γ) E xs
      (flat (types_at T.signature.params y.0.0) y.0.4)
      → ((r : Res T.signature y.0.0) (ws : Lasts T y.0.0 y.0.3) → Is (type_at T.signature.result y.0.0) r (spell r ∷ [])
      → φ r ws
      → Seq K 𝓛 (tok ∷ ‵ (lasts T y.0.0 y.0.3 ws) ∷ Γ) (lands C Λ E d (spell r) rest q))
      → Seq K 𝓛 ((tok ⊛ ‵ (owns (types_at T.signature.params y.0.0) y.0.3 y.0.4)) ∷ Γ) (runs C Λ E (seq (call f xs d) rest) q)
  cited_call t fm T c known y req tok e spell tl φ sy os k =
      let R : RattleType = type_at T.signature.result y.0.0 in
      let tokens : SProp 𝓤 = alive 𝓛 T.signature y.0.0 y.0.1 in
      let owned : SProp 𝓤 = sem 𝓛 (owns (types_at T.signature.params y.0.0) y.0.3 y.0.4) in
      calls_from t fm (tok ⊛ ‵ (owns (types_at T.signature.params y.0.0) y.0.3 y.0.4))
      (flat (types_at T.signature.params y.0.0) y.0.4) ((triple_of 𝓛 T.signature (closing 𝓛 T c)).post y)
      (via 𝓤 (sep 𝓤 (sep 𝓤 tokens owned) ((c y.0.0 y.0.3).requires y.1))
      (via 𝓤 (sep 𝓤 tokens owned) (mono_l 𝓤 owned (subst (λ (P : SProp 𝓤). ent 𝓤 (mean 𝓛 tok) P) e (id⊢ 𝓤 _)))
      (via 𝓤 (sep 𝓤 (sep 𝓤 tokens owned) (emp 𝓤)) (∗emp 𝓤 (sep 𝓤 tokens owned)) (mono_r 𝓤 (sep 𝓤 tokens owned) req))) (known y)) os (λ v.
      use1 𝓛 (later (some (λ (r : Res T.signature y.0.0). (raw tokens ⊛ ‵ (R.own_val r (v ∷ []))) ⊛ some
      (λ (ws : Lasts T y.0.0 y.0.3). ‵ (lasts T y.0.0 y.0.3 ws) ⊛ raw ((c y.0.0 y.0.3).ensures y.1 r
      (at_exit T y.0.0 y.0.3 ws)))))) (id⊢ 𝓤 _) $ await t tt $ pick t (λ r.
      split t $ move t (1 ∷ []) $ pick t (λ ws. split t $ move t (1 ∷ []) $ recast 𝓛 (raw (fact 𝓤 (φ r ws))) (sy r ws) $ heard t (φ r ws) (λ p.
      -- [what is said of the last values; the tokens and the result]
      move t (1 ∷ []) $ split t $ recast 𝓛 tok (sym e) $ move t (1 ∷ []) $ facts t R (Is R) (shows 𝓛 R) r (v ∷ []) (λ is.
      subst (λ (u : Val). Seq K 𝓛 (tok ∷ ‵ (lasts T y.0.0 y.0.3 ws) ∷ Γ) (lands C Λ E d u rest q)) (sym (ap only (tl r (v ∷ []) is)))
      (k r ws (subst (Is R r) (tl r (v ∷ []) is) is) p))))))

-- ---- a `while`. The environment of a function's locals at the blocks bs: with `stack`, the context of a loop
abbrev pub env_of : List Local → List ℕ → List (Ty × ℕ)
env_of [] bs = []
env_of (local τ h ∷ ls) [] = []
env_of (local τ h ∷ ls) (b ∷ bs) = (τ, b) ∷ env_of ls bs

module _ {M : Type 1} {𝓤 : Ura M} {𝓛 : Logic 𝓤} {K : Type 0} {Γ : List (Item 𝓤)} {E : Env 𝓤 𝓛.H} {C : Calls 𝓤 𝓛.H}
    {Λ : Loops 𝓤 𝓛.H} {q : Post 𝓤 𝓛.H} where
  -- the test: where it holds the turn goes on, and where it fails the loop is left
  open 𝓛 use {H}

  pub tests : K → {c : Operand} {n : ℕ} {b : Body} {y : Bool} → Opd K 𝓛 Γ E c (vbool y) → (T y → Seq K 𝓛 Γ (runs C Λ E b q))
      → (T (not y) → Seq K 𝓛 Γ (prop (post 𝓤 H q (exits n)))) → Seq K 𝓛 Γ (runs C Λ E (seq (cond c skip (exit n)) b) q)
  tests t o go_on leave = first t $ branches t o (λ z. skips t $ record { prf = (go_on z).prf }) (λ z. jumps t $ record { prf = (leave z).prf })

-- ---- that a loop comes to an end: each lap leaves less to do than there was
abbrev pub Nearer : {S : Type 0} → (S → ℕ) → S → S → Type 0
Nearer left t u = left t < left u

pub nearer_wf : {S : Type 0} (left : S → ℕ) → WellFounded (Nearer left)
nearer_wf left = InvImage.wf left lt-wf_rel.wf

-- so of one that counts up to n, and its count fits a word
pub nearer : (n k : ℕ) → k < n → n - (k + 1) < n - k
nearer n k h = omega arith

pub below : (n k : ℕ) → n < 2 ^ 64 → k ≤ n → k < 2 ^ 64
below n k fits h = omega arith

pub next : (n k : ℕ) → k < n → k + 1 ≤ n
next n k h = omega arith

pub zero_le : (n : ℕ) → 0 ≤ n
zero_le n = omega arith
