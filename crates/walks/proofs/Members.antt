-- The list of all orders: every order of a small class is in it, nothing else is, and none twice. Assumes nothing.
use Prim.Native.Nat.{ℕ, zero, suc, ◌+◌, ◌≤◌, ◌<◌}
use mathlib.Core.Bool.{true, false, cond, and-false}
use mathlib.Core.Path.{◌≡◌, refl, sym, ap, subst, ◌∙◌}
use mathlib.Core.List.{List, [], ◌∷◌, ◌++◌, map, flat_map, nil≢cons, head-eq_of_cons-eq, tail-eq_of_cons-eq}
use mathlib.Core.Logic.{inl, inr}
use native.Mathlib.Omega.{arith}
use lib.ListN.{length, length-append}
use Rattle.mark.proofs.Choices.{by_cases, not_both}
use Rattle.turn.specs.declared.Worker.{Worker}
use Rattle.turn.specs.Worker.{is_idle}
use Rattle.engine.specs.declared.Floor.{Floor}
use Rattle.walks.specs.Lists.{In, Ordered}
use Rattle.walks.specs.Orders.{ran, all_idle, Busy, Over, Order, busy_from, orders}
use Rattle.walks.proofs.Listed.{Apart, in_each, in_flat, flat_in, flat_once, in_front, front_in, front_once}
use Rattle.walks.proofs.Sitting.{Sitting, turn_sits}
use Rattle.walks.proofs.Going.{ran_none, board_after, records_after, run_follows, first_board, first_records}

-- ---- the busy workers

-- the first record's worker is number 0, and the others come after it
busy_first : (w : Worker) (ws : List Worker) → is_idle w ≡ false → Busy (w ∷ ws) 0
busy_first w ws is = record { listed = omega arith; busy = is }

busy_later : (w : Worker) (ws : List Worker) (j : ℕ) → Busy ws j → Busy (w ∷ ws) (suc j)
busy_later w ws j b = record { listed = (let low = b.listed in omega arith); busy = b.busy }

-- a number is listed just if it is a busy worker's
pub listed_busy : (k : ℕ) (ws : List Worker) (i : ℕ) → In i (busy_from k ws) → (j : ℕ) × (i ≡ k + j) × Busy ws j
unfolding busy_from
listed_busy k [] i = λ has. absurd has
listed_busy k (w ∷ ws) i =
    by_cases (λ (l : List ℕ). In i l → (j : ℕ) × (i ≡ k + j) × Busy (w ∷ ws) j) (is_idle w) _ _
    (λ idle has. later (listed_busy (suc k) ws i has)) (λ busy has. first busy (listed_busy (suc k) ws i) has)
  where
    later : (j : ℕ) × (i ≡ suc k + j) × Busy ws j → (j : ℕ) × (i ≡ k + j) × Busy (w ∷ ws) j
    later r = (suc r.0, (let e = r.1 in omega arith), busy_later w ws r.0 r.2)

    first :
        is_idle w ≡ false → (In i (busy_from (suc k) ws) → (j : ℕ) × (i ≡ suc k + j) × Busy ws j)
        → In i (k ∷ busy_from (suc k) ws) → (j : ℕ) × (i ≡ k + j) × Busy (w ∷ ws) j
    first busy rest (inl is) = (0, (omega arith), busy_first w ws busy)
    first busy rest (inr has) = later (rest has)

pub busy_listed : (k : ℕ) (ws : List Worker) (j : ℕ) → Busy ws j → In (k + j) (busy_from k ws)
unfolding busy_from
busy_listed k [] j b = absurd (let low = b.listed in omega arith)
busy_listed k (w ∷ ws) zero b = rw b.busy (inl (omega arith))
busy_listed k (w ∷ ws) (suc j) b =
    let shift : suc k + j ≡ k + suc j = omega arith in
    let tail : Busy ws j = record { listed = (let low = b.listed in omega arith); busy = b.busy } in
    let rest : In (k + suc j) (busy_from (suc k) ws) = rw (← shift) (busy_listed (suc k) ws j tail) in
    by_cases (λ (l : List ℕ). In (k + suc j) l) (is_idle w) _ _ (λ idle. rest) (λ busy. inr rest)

-- and none is listed twice
pub busy_once : (k : ℕ) (ws : List Worker) → Ordered Apart (busy_from k ws)
unfolding busy_from
busy_once k [] = tt
busy_once k (w ∷ ws) =
    by_cases (Ordered Apart) (is_idle w) _ _ (λ idle. busy_once (suc k) ws)
    (λ busy. (in_each (Apart k) (busy_from (suc k) ws) (λ i has. let r = listed_busy (suc k) ws i has in let e = r.1 in λ same. omega arith), busy_once (suc k) ws))

-- where somebody is busy not all are idle
pub somebody_busy : (ws : List Worker) (i : ℕ) → Busy ws i → all_idle ws ≡ false
unfolding all_idle
somebody_busy [] i b = absurd (let low = b.listed in omega arith)
somebody_busy (w ∷ ws) zero b = rw b.busy
somebody_busy (w ∷ ws) (suc i) b =
    rw (somebody_busy ws i (record { listed = (let low = b.listed in omega arith); busy = b.busy })) (and-false (is_idle w))

-- and where not all are idle somebody is listed
somebody_listed : (k : ℕ) (ws : List Worker) → all_idle ws ≡ false → (i : ℕ) × In i (busy_from k ws)
unfolding all_idle busy_from
somebody_listed k [] busy = not_both true busy refl
somebody_listed k (w ∷ ws) busy =
    by_cases (λ (l : List ℕ). (i : ℕ) × In i l) (is_idle w) _ _
    (λ idle. somebody_listed (suc k) ws (rw idle at busy)) (λ here. (k, inl refl))

-- ---- an order that begins with a turn

module _ {f : Floor} {board : List ℕ} {records : List Worker} (g : Sitting f board records) {i : ℕ} (b : Busy records i) where
  abbrev board_then : List ℕ
  board_then = board_after g b

  abbrev records_then : List Worker
  records_then = records_after g b

  -- what is left of an order after its first turn is an order of what that turn leaves
  pub order_rest : (depth : ℕ) (turns : List ℕ) → depth ≤ 24 → Order f board records (suc depth) (i ∷ turns) → Order f board_then records_then depth turns
  order_rest depth turns few o =
      let short : length turns ≤ depth = (let long = o.within in omega arith) in
      record {
        within = short;
        each = λ before later j is.
            let fits : length before ≤ 65534 = (let e = ap length is ∙ length-append before (j ∷ later) in omega arith) in
            subst (λ (ws : List Worker). Busy ws j) (run_follows g b before fits).records (o.each (i ∷ before) later j (ap (λ (l : List ℕ). i ∷ l) is));
        ends = ending o.ends (run_follows g b turns (omega arith)).records;
      }
    where
      ending :
          Over (ran f board records (i ∷ turns)).handed.records (length (i ∷ turns)) (suc depth)
          → (ran f board records (i ∷ turns)).handed.records ≡ (ran f board_then records_then turns).handed.records
          → Over (ran f board_then records_then turns).handed.records (length turns) depth
      ending (inl idle) same = inl (rw (← same) idle)
      ending (inr used) same = inr (omega arith)

  -- and an order of what a turn leaves, with that turn before it, is an order
  pub order_first : (depth : ℕ) (turns : List ℕ) → depth ≤ 24 → Order f board_then records_then depth turns → Order f board records (suc depth) (i ∷ turns)
  order_first depth turns few o =
      let short = o.within in
      record {
        within = omega arith;
        each = λ before later j is. begins before later j is;
        ends = ending o.ends (run_follows g b turns (omega arith)).records;
      }
    where
      begins : (before later : List ℕ) (j : ℕ) → i ∷ turns ≡ before ++ (j ∷ later) → Busy (ran f board records before).handed.records j
      begins [] later j is = rw (ran_none g) (rw (← head-eq_of_cons-eq is) b)
      begins (k ∷ before) later j is =
          let here : i ≡ k = head-eq_of_cons-eq is in
          let rest : turns ≡ before ++ (j ∷ later) = tail-eq_of_cons-eq is in
          let fits : length before ≤ 65534 = (let e = ap length rest ∙ length-append before (j ∷ later) in let short = o.within in omega arith) in
          rw (← here) (subst (λ (ws : List Worker). Busy ws j) (sym (run_follows g b before fits).records) (o.each before later j rest))

      ending :
          Over (ran f board_then records_then turns).handed.records (length turns) depth
          → (ran f board records (i ∷ turns)).handed.records ≡ (ran f board_then records_then turns).handed.records
          → Over (ran f board records (i ∷ turns)).handed.records (length (i ∷ turns)) (suc depth)
      ending (inl idle) same = inl (rw same idle)
      ending (inr used) same = inr (omega arith)

-- an order without turns is one where all are idle, or no turn is left
no_turns_lem :
    {f : Floor} {board : List ℕ} {records : List Worker} (depth : ℕ)
    → Sitting f board records → Over records 0 depth → Order f board records depth []
no_turns_lem {f} {board} {records} depth g ends =
    record {
      within = omega arith;
      each = λ before later i is. absurd (never before later i is);
      ends = rw (ran_none g) ends;
    }
  where
    never : (before later : List ℕ) (i : ℕ) → [] ≡ before ++ (i ∷ later) → ⊥
    never [] later i is = nil≢cons is
    never (k ∷ before) later i is = nil≢cons is

-- ---- the three theorems, by the turns that are left

-- the orders after a turn of worker i
abbrev pub orders_after : Floor → ℕ → List ℕ → List Worker → ℕ → List (List ℕ)
orders_after f depth board records i = let x = ran f board records (i ∷ []) in orders f depth x.words x.handed.records

-- the orders that begin with it
abbrev pub begun_with : Floor → ℕ → List ℕ → List Worker → ℕ → List (List ℕ)
begun_with f depth board records i = map (λ o. i ∷ o) (orders_after f depth board records i)

module _ {f : Floor} {board : List ℕ} {records : List Worker} (g : Sitting f board records) {i : ℕ} (b : Busy records i) where
  -- the orders from where that turn leaves off
  abbrev orders_then : ℕ → List (List ℕ)
  orders_then depth = orders f depth (board_after g b) (records_after g b)

  -- they are these, with that turn before them
  pub begun_with_lem : (depth : ℕ) → begun_with f depth board records i ≡ map (λ o. i ∷ o) (orders_then depth)
  begun_with_lem depth = rw (first_board g b, first_records g b)

-- what is listed is an order
abbrev Only : Floor → ℕ → List ℕ → List Worker → Type 0
Only f depth board records = (turns : List ℕ) → In turns (orders f depth board records) → Order f board records depth turns

-- an order is listed
abbrev Every : Floor → ℕ → List ℕ → List Worker → Type 0
Every f depth board records = (turns : List ℕ) → Order f board records depth turns → In turns (orders f depth board records)

-- it is of every small class
abbrev Always : (Floor → ℕ → List ℕ → List Worker → Type 0) → ℕ → Type 0
Always P depth = (f : Floor) (board : List ℕ) (records : List Worker) → Sitting f board records → P f depth board records

only_none : (depth : ℕ) {f : Floor} {board : List ℕ} {records : List Worker} (turns : List ℕ)
    → Sitting f board records → Over records 0 depth → In turns ([] ∷ []) → Order f board records depth turns
only_none depth turns g ends (inl is) = rw (← is) (no_turns_lem depth g ends)
only_none depth turns g ends (inr none) = absurd none

module _ (depth : ℕ) (few : depth < 24) (f : Floor) (board : List ℕ) (records : List Worker) (g : Sitting f board records) where
  only_next : Always Only depth → Only f (suc depth) board records
  unfolding orders
  only_next rest turns =
      by_cases (λ (l : List (List ℕ)). In turns l → Order f board records (suc depth) turns) (all_idle records) _ _
      (λ idle has. only_none (suc depth) turns g (inl idle) has)
      (λ busy has.
      let r = flat_in (begun_with f depth board records) turns (busy_from 0 records) has in
      let l = listed_busy 0 records r.0 r.1 in
      let same : r.0 ≡ l.0 = (let e = l.1 in omega arith) in
      let b : Busy records r.0 = rw same l.2 in
      let p = front_in r.0 turns (orders_then g b depth) (rw (begun_with_lem g b depth) at r.2) in
      rw p.1 (order_first g b depth p.0 (omega arith) (rest f (board_after g b) (records_after g b) (turn_sits g b) p.0 p.2)))

  every_next : Always Every depth → Every f (suc depth) board records
  unfolding orders
  every_next rest [] o = by (rw (ran_none g) at o.ends)
    where
      by : Over records 0 (suc depth)
          → In [] (cond (all_idle records) ([] ∷ []) (flat_map (begun_with f depth board records) (busy_from 0 records)))
      by (inl idle) = rw idle (inl refl)
      by (inr used) = absurd (omega arith)
  every_next rest (i ∷ turns) o =
      let b : Busy records i = rw (ran_none g) at (o.each [] turns i refl) in
      let there = in_front i turns (orders_then g b depth) (rest f (board_after g b) (records_after g b) (turn_sits g b) turns (order_rest g b depth turns (omega arith) o)) in
      let listed : In i (busy_from 0 records) = (let is : 0 + i ≡ i = omega arith in rw is at (busy_listed 0 records i b)) in
      rw (somebody_busy records i b) (in_flat (begun_with f depth board records) (i ∷ turns) i (busy_from 0 records) listed (rw (begun_with_lem g b depth) there))

-- nothing else than orders is in the list
pub nothing_else : (depth : ℕ) → depth ≤ 24 → Always Only depth
unfolding orders
nothing_else zero few f board records g turns has = only_none 0 turns g (inr (omega arith)) has
nothing_else (suc depth) few f board records g turns has =
    only_next depth (omega arith) f board records g (nothing_else depth (omega arith)) turns has

-- every order is in the list
pub every_order : (depth : ℕ) → depth ≤ 24 → Always Every depth
unfolding orders
every_order zero few f board records g [] o = inl refl
every_order zero few f board records g (i ∷ turns) o = absurd (let long = o.within in omega arith)
every_order (suc depth) few f board records g turns o =
    every_next depth (omega arith) f board records g (every_order depth (omega arith)) turns o

-- and none is in it twice
pub once_each : (depth : ℕ) (f : Floor) (board : List ℕ) (records : List Worker) → Ordered Apart (orders f depth board records)
unfolding orders
once_each zero f board records = (tt, tt)
once_each (suc depth) f board records =
    by_cases (Ordered Apart) (all_idle records) _ _ (λ idle. (tt, tt))
    (λ busy. flat_once (begun_with f depth board records) (busy_from 0 records) (busy_once 0 records)
    (λ i has. let x = ran f board records (i ∷ []) in front_once i (orders_after f depth board records i) (once_each depth f x.words x.handed.records))
    (λ i j o p apart one two same.
    let first = front_in i o (orders_after f depth board records i) one in
    let second = front_in j p (orders_after f depth board records j) two in
    apart (head-eq_of_cons-eq (sym first.1 ∙ same ∙ second.1))))

-- there is always one
pub some_order : (depth : ℕ) (f : Floor) (board : List ℕ) (records : List Worker) → (turns : List ℕ) × In turns (orders f depth board records)
unfolding orders
some_order zero f board records = ([], inl refl)
some_order (suc depth) f board records =
    by_cases (λ (l : List (List ℕ)). (turns : List ℕ) × In turns l) (all_idle records) _ _ (λ idle. ([], inl refl))
    (λ busy.
    let first = somebody_listed 0 records busy in
    let i = first.0 in
    let x = ran f board records (i ∷ []) in
    let rest = some_order depth f x.words x.handed.records in
    let there = in_front i rest.0 (orders_after f depth board records i) rest.1 in
    (i ∷ rest.0, in_flat (begun_with f depth board records) (i ∷ rest.0) i (busy_from 0 records) first.1 there))
