-- The mark word that a worker has in mind: a turn renews it, keeps it or forgets it. Assumes nothing.
use Prim.Native.Nat.{ℕ, ◌≤◌}
use mathlib.Core.Path.{◌≡◌, ap}
use mathlib.Core.Logic.{◌⊎◌, inl, inr}
use native.Mathlib.Omega.{arith}
use Rattle.turn.specs.declared.Worker.{Worker}
use Rattle.turn.specs.Worker.{idle}
use Rattle.turn.specs.Effects.{Effect, none, effect_on}
use Rattle.turn.proofs.Effects.{SameCall, Moves, reads, goes, again, answers, claims, commits, frees, closes, retires, Swapper, expects, expects_word}
use Rattle.history.specs.Trace.{Entry, who}
use Rattle.history.proofs.View.{View, worker, Aware, Acts}
use Rattle.history.proofs.Lawful.{changed}
use Rattle.history.proofs.Held.{Kept, own_sure}

-- a turn of w with effect e on the mark word m that leaves v
pub data Minds (m : ℕ) (w : Worker) (e : Effect) (v : Worker) : Type 0 where
  -- it read the mark word whole or changed it, and has in mind what stands there then
  renews : (w.place ≡ 1) ⊎ (changed e ≡ 1) → v.key ≡ w.key → v.word ≡ effect_on e m → Minds m w e v
  -- it did neither, and has in mind what it had
  keeps : e ≡ none → SameCall w v → v.word ≡ w.word → 2 ≤ w.place → 2 ≤ v.place → Minds m w e v
  -- its round is over
  forgets : (Aware v → ⊥) → Minds m w e v

-- the idle record has nothing in mind
pub idle_unaware : (v : Worker) → v ≡ idle → Aware v → ⊥
idle_unaware v is aware = let none : v.place ≡ 0 = ap (λ (x : Worker). x.place) is in omega (arith, aware.from)

module _ (m : ℕ) (w : Worker) (e : Effect) (v : Worker) where
  -- every turn is one of the three
  pub moves_minds : Moves m w e v → Minds m w e v
  moves_minds (reads is place call word held) = renews (inl place) call.key (rw is word)
  moves_minds (goes is place call word held from) = keeps is call word place from
  moves_minds (again is call word held from) = forgets (λ aware. omega (arith, aware.from))
  moves_minds (answers is ends) = forgets (idle_unaware v ends)
  moves_minds (claims is kind held slot empty call own word) = renews (inr (rw is)) call.key (rw is word)
  moves_minds (commits is kind held ends) = forgets (idle_unaware v ends)
  moves_minds (frees is kind held ends) = forgets (idle_unaware v ends)
  moves_minds (closes is kind slot valid ends) = forgets (idle_unaware v ends)
  moves_minds (retires is kind held ends) = forgets (idle_unaware v ends)

-- ---- the word that a swap expects

-- it is the one that the worker has in mind
pub act_expects :
    (n : ℕ) (s : View) (e : Entry) (v : Worker) (t : View)
    → Kept n s
    → Acts n s e v t
    → Swapper (worker s (who e))
    → expects (worker s (who e)) ≡ (worker s (who e)).word
act_expects n s e v t kept act swapper =
    expects_word (worker s (who e)) swapper (λ kind held. (own_sure n s e v t kept act (kind, held)).word swapper.from)
