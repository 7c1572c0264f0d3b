-- Three records by value: a class of fewer has somebody idle in the places that are left, who counts for nothing, and it does not matter who
-- of the three comes first. Assumes nothing.
use Prim.Native.Nat.{ℕ, zero, suc, ◌+◌, ◌<◌}
use mathlib.Core.Bool.{Bool, true, cond, ◌&&◌, and-true, and_comm, and_assoc}
use mathlib.Core.Path.{◌≡◌, refl, sym, ap, ap₂, ◌∙◌}
use mathlib.Core.List.{List, [], ◌∷◌, ◌++◌, map}
use native.Mathlib.Omega.{arith}
use lib.ListN.{length, length-map}
use lib.Seq.{set-append_left}
use Rattle.turn.specs.declared.Worker.{Worker}
use Rattle.turn.specs.Worker.{is_idle, idle}
use Rattle.turn.specs.Asleep.{slept}
use Rattle.turn.specs.Turn.{try_turn}
use Rattle.turn.proofs.Kept.{is_idle_lem}
use Rattle.turn.proofs.Asleep.{slept_idle}
use Rattle.engine.specs.Calls.{losses, after_turn}
use Rattle.walks.specs.declared.Walks.{Walks}
use Rattle.walks.specs.Orders.{all_idle, no_walks, one_walk, together}
use Rattle.walks.specs.Walk.{three_idle, begun_by, begun, walks}
use Rattle.walks.proofs.Together.{together_none, together_assoc, together_rotate}
use Rattle.walks.proofs.Counted.{Next, summed, turn_then, walks_from}

-- ---- somebody idle at the end of a list

abbrev with_idle : List Worker → List Worker
with_idle ws = ws ++ (idle ∷ [])

idle_more : (ws : List Worker) → all_idle (with_idle ws) ≡ all_idle ws
unfolding all_idle
idle_more [] = rw is_idle_lem
idle_more (w ∷ ws) = rw (idle_more ws)

-- who sleeps on through every turn
slept_more : (ws : List Worker) → map slept (with_idle ws) ≡ with_idle (map slept ws)
slept_more [] = rw slept_idle
slept_more (w ∷ ws) = rw (slept_more ws)

after_idle : (ws : List Worker) (i : ℕ) (w : Worker) → i < length ws → after_turn (with_idle ws) i w ≡ with_idle (after_turn ws i w)
after_idle ws i w low = rw (slept_more ws) (set-append_left (map slept ws) (idle ∷ []) i w (rw (length-map ws slept) low))

-- and begins no walk
summed_idle :
    (more less : Next) (k : ℕ) (ws : List Worker)
    → ((i : ℕ) (w : Worker) → i < k + length ws → more i w ≡ less i w)
    → summed more k (with_idle ws) ≡ summed less k ws
unfolding summed
summed_idle more less k [] same = rw is_idle_lem (together_none no_walks)
summed_idle more less k (w ∷ ws) same =
    rw (same k w (omega arith), summed_idle more less (suc k) ws (λ i v low. same i v (omega arith)))

-- a class with somebody idle behind it has the same walks
pub walks_from_idle : (depth : ℕ) (board : List ℕ) (ws : List Worker) (lost : ℕ) → walks_from depth board (with_idle ws) lost ≡ walks_from depth board ws lost
unfolding walks_from
walks_from_idle zero board ws lost = rw (idle_more ws)
walks_from_idle (suc depth) board ws lost =
    let next : summed (turn_then (walks_from depth) board (with_idle ws) lost) 0 (with_idle ws) ≡ summed (turn_then (walks_from depth) board ws lost) 0 ws =
    summed_idle (turn_then (walks_from depth) board (with_idle ws) lost) (turn_then (walks_from depth) board ws lost) 0 ws (λ i w low.
    let t = try_turn 0 board w in
    let low_is : i < length ws = omega arith in
    rw (after_idle ws i t.handed.worker low_is)
    (walks_from_idle depth t.words (after_turn ws i t.handed.worker) (lost + losses t.handed.said.report.action))) in
    rw (idle_more ws, next)

-- ---- three

-- whether all three are idle, whoever comes first
idle_rotate : (a b c : Worker) → three_idle a b c ≡ three_idle b c a
idle_rotate a b c = and_comm (is_idle a) (is_idle b && is_idle c) ∙ and_assoc (is_idle b) (is_idle c) (is_idle a)

pub walks_rotate : (depth : ℕ) (words : List ℕ) (a b c : Worker) (lost : ℕ) → walks depth words a b c lost ≡ walks depth words b c a lost
unfolding walks
walks_rotate zero words a b c lost = ap (λ (t : Bool). one_walk t lost) (idle_rotate a b c)
walks_rotate (suc depth) words a b c lost =
    let from = begun_by (walks depth) words in
    rw (idle_rotate a b c)
    (ap (cond (three_idle b c a) (one_walk true lost)) (together_rotate (from a b c lost) (from b c a lost) (from c a b lost)))

three_idle_lem : (a b c : Worker) → all_idle (a ∷ b ∷ c ∷ []) ≡ three_idle a b c
unfolding all_idle
three_idle_lem a b c = rw (and-true (is_idle c))

module _
    (depth : ℕ) (rest : (words : List ℕ) (a b c : Worker) (lost : ℕ) → walks_from depth words (a ∷ b ∷ c ∷ []) lost ≡ walks depth words a b c lost)
    (words : List ℕ) (a b c : Worker) (lost : ℕ)
  where
    abbrev next : Next
    next = turn_then (walks_from depth) words (a ∷ b ∷ c ∷ []) lost

    abbrev from : Worker → Worker → Worker → Walks
    from own other last = begun_by (walks depth) words own other last lost

    begins :
        (i : ℕ) (own other last : Worker)
        → ((words : List ℕ) (w : Worker) (lost : ℕ)
        → walks_from depth words (after_turn (a ∷ b ∷ c ∷ []) i w) lost ≡ walks depth words w (slept other) (slept last) lost)
        → cond (is_idle own) no_walks (next i own) ≡ from own other last
    begins i own other last same = ap (cond (is_idle own) no_walks) (same _ _ _)

    sums_three : summed next 0 (a ∷ b ∷ c ∷ []) ≡ begun (walks depth) words a b c lost
    unfolding summed
    sums_three =
        let first = begins 0 a b c (λ v w l. rest v w (slept b) (slept c) l) in
        let second = begins 1 b c a (λ v w l. rest v (slept a) w (slept c) l ∙ walks_rotate depth v (slept a) w (slept c) l) in
        let third =
        begins 2 c a b (λ v w l. rest v (slept a) (slept b) w l ∙ walks_rotate depth v (slept a) (slept b) w l ∙ walks_rotate depth v (slept b) w (slept a) l) in
        ap₂ together first (ap₂ together second (ap₂ together third refl ∙ together_none _))
        ∙ sym (together_assoc (from a b c) (from b c a) (from c a b))

-- the recursion over a list of three is the recursion on three by value
pub walks_from_three : (depth : ℕ) (words : List ℕ) (a b c : Worker) (lost : ℕ) → walks_from depth words (a ∷ b ∷ c ∷ []) lost ≡ walks depth words a b c lost
unfolding walks_from walks
walks_from_three zero words a b c lost = ap (λ (t : Bool). one_walk t lost) (three_idle_lem a b c)
walks_from_three (suc depth) words a b c lost = rw (three_idle_lem a b c, sums_three depth (walks_from_three depth) words a b c lost)
