-- How far the version has moved from the word that the holder of a slot has in its record, at whatever place it is: what it read, or claimed its
-- slot with, stood in its bucket once. Assumes nothing.
use Prim.Native.Nat.{ℕ, ◌+◌, ◌%◌, ◌^◌, ◌≤◌, ◌<◌}
use mathlib.Core.List.{List, ◌∷◌}
use mathlib.Core.Path.{◌≡◌, sym, ap, subst, ◌∙◌}
use native.Mathlib.Omega.{arith}
use Rattle.mark.specs.Word.{version}
use Rattle.mark.proofs.Fields.{version_lt}
use Rattle.turn.specs.declared.Worker.{Worker}
use Rattle.turn.specs.Worker.{idle}
use Rattle.turn.specs.Effects.{effect_on}
use Rattle.turn.proofs.Effects.{SameCall, Moves, reads, goes, again, answers, claims, commits, frees, closes, retires}
use Rattle.engine.specs.Board.{bucket_of}
use Rattle.history.specs.Trace.{Entry, who, bucket_in, total}
use Rattle.history.specs.Cells.{home, Holds}
use Rattle.history.proofs.View.{View, worker, Starts, Acts, act_version, each_worker}
use Rattle.history.proofs.Counts.{bump_of, in_bucket, in_bucket_most}

-- the version of m is so much further than that of a word, and no further than versions were moved
pub record Behind (moves m word : ℕ) : Type 0 where
  pub since : ℕ
  pub few : since ≤ moves
  pub moved : version m ≡ (version word + since) % 2 ^ 32

-- a word that stands there is not behind
abbrev pub not_behind : (moves m word : ℕ) → word ≡ m → Behind moves m word
not_behind moves m word is =
    record { since = 0; few = omega arith; moved = omega (arith, version_lt word, ap version is) }

-- where the version moves on, so does what a word is behind
abbrev pub behind_on :
    (moves more then m new word : ℕ)
    → version new ≡ (version m + more) % 2 ^ 32
    → moves + more ≤ then
    → Behind moves m word
    → Behind then new word
behind_on moves more then m new word next most old =
    record { since = old.since + more; few = omega (arith, old.few, most); moved = omega (arith, next, old.moved) }

-- as long as versions were moved fewer than 2^32 times, a word whose version stands is not behind
pub not_moved : (moves m word : ℕ) (known : Behind moves m word) → moves < 2 ^ 32 → version m ≡ version word → known.since ≡ 0
not_moved moves m word known few same = omega (arith, known.few, known.moved, version_lt word)

-- what holds of the slot's holder, with these entries behind it, the newest first
abbrev pub BehindIn : ℕ → List Entry → (ℕ → ℕ) → Worker → Type 0
BehindIn n past marks w = Holds w → Behind (total bump_of past) (marks (home n w)) w.word

module _ (n : ℕ) (s : View) (e : Entry) (v : Worker) (t : View) (act : Acts n s e v t) (past : List Entry) where
  abbrev m : ℕ
  m = s.marks (bucket_in e)

  abbrev w : Worker
  w = worker s (who e)

  -- what a word is behind in a bucket, over an entry
  next_behind : (b word : ℕ) → Behind (total bump_of past) (s.marks b) word → Behind (total bump_of (e ∷ past)) (t.marks b) word
  unfolding total
  next_behind b word old =
      behind_on (total bump_of past) (in_bucket b bump_of e) _ (s.marks b) (t.marks b) word (act_version act b) (omega (arith, in_bucket_most b bump_of e)) old

  over : v ≡ idle → BehindIn n (e ∷ past) t.marks v
  over is holds = absurd (let none : v.kind ≡ 0 = ap (λ (x : Worker). x.kind) is in omega (arith, holds.0))

  -- the same lot is in the same bucket
  there : v.key ≡ w.key → home n v ≡ bucket_in e
  there key = ap (λ (k : ℕ). bucket_of k n) key ∙ sym act.bucket

  -- a word that the entry left in its bucket
  renewed : v.key ≡ w.key → v.word ≡ effect_on act.effect m → BehindIn n (e ∷ past) t.marks v
  renewed key word holds = not_behind _ _ _ (word ∙ sym act.here ∙ ap t.marks (sym (there key)))

  -- the word that it had
  kept : SameCall w v → v.word ≡ w.word → v.held ≡ w.held → BehindIn n past s.marks w → BehindIn n (e ∷ past) t.marks v
  kept call word held old holds =
      let was : Holds w = (sym call.kind ∙ holds.0, omega (arith, holds.1)) in
      let same : home n v ≡ home n w = ap (λ (k : ℕ). bucket_of k n) call.key in
      subst (λ (b : ℕ). Behind (total bump_of (e ∷ past)) (t.marks b) v.word) (sym same)
      (subst (Behind (total bump_of (e ∷ past)) (t.marks (home n w))) (sym word) (next_behind (home n w) w.word (old was)))

  own_behind : Moves m w act.effect v → BehindIn n past s.marks w → BehindIn n (e ∷ past) t.marks v
  own_behind (reads is place call word held) old = renewed call.key (rw is word)
  own_behind (goes is place call word held from) old = kept call word held old
  own_behind (again is call word held from) old = kept call word held old
  own_behind (answers is ends) old = over ends
  own_behind (claims is kind held slot empty call own word) old = renewed call.key (rw is word)
  own_behind (commits is kind held ends) old = over ends
  own_behind (frees is kind held ends) old = over ends
  own_behind (closes is kind slot valid ends) old = over ends
  own_behind (retires is kind held ends) old = over ends

  -- a turn and a retiring keep every holder behind by no more than versions were moved
  pub act_behind : ((i : ℕ) → BehindIn n past s.marks (worker s i)) → (i : ℕ) → BehindIn n (e ∷ past) t.marks (worker t i)
  act_behind old =
      each_worker s t (who e) v act.records (λ (j : ℕ) (u : Worker). BehindIn n (e ∷ past) t.marks u) act.within
      (own_behind act.moves (old (who e))) (λ j other holds. next_behind (home n (worker s j)) (worker s j).word (old j holds))

-- and so does a start
pub start_behind :
    (n : ℕ) (s : View) (v : Worker) (t : View) (past : List Entry)
    → Starts s v t
    → ((i : ℕ) → BehindIn n past s.marks (worker s i))
    → (i : ℕ)
    → BehindIn n past t.marks (worker t i)
start_behind n s v t past start old =
    each_worker s t start.who v start.records (λ (j : ℕ) (u : Worker). BehindIn n past t.marks u) start.within
    (λ holds. absurd (omega (arith, holds.1, start.held)))
    (λ j other holds. subst (λ (m : ℕ). Behind (total bump_of past) m (worker s j).word) (sym (start.marks (home n (worker s j)))) (old j holds))
