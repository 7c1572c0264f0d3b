-- The walk as the code goes it, three records and the words of one bucket by value (§14.12). No promise of a public function goes by it: that
-- it comes to the counts over all orders is `walks_from_counted` and `walks_from_three`, in proofs/Counted and proofs/Three.
use Rattle.std.specs.Prelude.{ℕ, zero, suc, ◌+◌, ◌^◌, ◌≤◌, Bool, true, cond, ◌&&◌, ◌||◌, List, ltb}
use Rattle.turn.specs.declared.Worker.{Worker}
use Rattle.turn.specs.Worker.{is_idle, idle, broken}
use Rattle.turn.specs.Asleep.{slept}
use Rattle.turn.specs.Turn.{try_turn, bucket_refusal}
use Rattle.engine.specs.Calls.{losses}
use Rattle.walks.specs.declared.Walks.{Walks}
use Rattle.walks.specs.Orders.{no_walks, one_walk, together}

-- the walks from a bucket and three records, with so many swaps lost before
abbrev pub Walking : Type 0
Walking = List ℕ → Worker → Worker → Worker → ℕ → Walks

-- all three are idle
abbrev pub three_idle : Worker → Worker → Worker → Bool
three_idle a b c = is_idle a && (is_idle b && is_idle c)

-- the walks that begin with a turn of the first of three, through which the others sleep, and go on so
abbrev pub begun_by : Walking → Walking
begun_by rest words own next last lost =
    let t = try_turn 0 words own in
    cond (is_idle own) no_walks (rest t.words t.handed.worker (slept next) (slept last) (lost + losses t.handed.said.report.action))

-- the walks that begin with a turn of any of the three; each of them has the other two in turn behind it
abbrev pub begun : Walking → Walking
begun rest words a b c lost =
    together (together (begun_by rest words a b c lost) (begun_by rest words b c a lost)) (begun_by rest words c a b lost)

-- all walks with so many turns left
unfoldable pub walks : ℕ → Walking
walks zero words a b c lost = one_walk (three_idle a b c) lost
walks (suc depth) words a b c lost = cond (three_idle a b c) (one_walk true lost) (begun (walks depth) words a b c lost)

-- what a sum of counts asks: that none of them is near the end of 64 bits
pub record Fit (w : Walks) : Type 0 where
  pub finished : w.finished ≤ 2 ^ 62
  pub cut : w.cut ≤ 2 ^ 62
  pub lost : w.lost ≤ 2 ^ 62

-- who stands at a place of a class of so many: past the end somebody idle, who has no turn
abbrev pub seated : Worker → ℕ → ℕ → Worker
seated w i listed = cond (ltb i listed) w idle

-- §6.3, §6.7: the number by which three records and a bucket refuse, or 0
abbrev pub class_number : List ℕ → Worker → Worker → Worker → ℕ
class_number words a b c = cond (broken a || (broken b || broken c)) 3 (bucket_refusal words)
