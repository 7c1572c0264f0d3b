-- On an opened board the version of a bucket tells its commits and the retirings that gave a slot back, and the number of its valid marks
-- those at first and the commits, less the closes. Assumes nothing.
use Prim.Native.Nat.{ℕ, ◌+◌, ◌%◌, ◌^◌}
use mathlib.Core.List.{List, ◌∷◌}
use mathlib.Core.Path.{◌≡◌, refl, sym, subst, ◌∙◌}
use native.Mathlib.Decide.{ℕ_discrete}
use native.Mathlib.Omega.{arith}
use Rattle.mark.specs.Word.{version, count_marks}
use Rattle.turn.specs.declared.Worker.{Worker}
use Rattle.turn.specs.Effects.{Effect}
use Rattle.history.specs.Trace.{Entry, bucket_in, total}
use Rattle.history.proofs.View.{View, Acts, act_version}
use Rattle.history.proofs.Lawful.{committed, closed, valid_effect}
use Rattle.history.proofs.Counts.{commit_of, close_of, bump_of, in_bucket, in_bucket_lem, out_of_bucket}
use Rattle.history.proofs.Held.{Kept, act_lawful}

-- the commits of a bucket
abbrev pub commits_at : ℕ → List Entry → ℕ
commits_at b past = total (in_bucket b commit_of) past

-- the closes of a bucket
abbrev pub closes_at : ℕ → List Entry → ℕ
closes_at b past = total (in_bucket b close_of) past

-- what moved the version of a bucket
abbrev pub bumps_at : ℕ → List Entry → ℕ
bumps_at b past = total (in_bucket b bump_of) past

-- what the mark word m of a bucket tells of its entries, where it was this one at first
pub record Tells (first b : ℕ) (past : List Entry) (m : ℕ) : Type 0 where
  pub bumps : version m ≡ (version first + bumps_at b past) % 2 ^ 32
  pub valid : count_marks 1 m + closes_at b past ≡ count_marks 1 first + commits_at b past

module _ (first n : ℕ) (s : View) (e : Entry) (w : Worker) (t : View) (kept : Kept n s) (act : Acts n s e w t) (past : List Entry) where
  abbrev effect : Effect
  effect = act.effect

  here_tells : Tells first (bucket_in e) past (s.marks (bucket_in e)) → Tells first (bucket_in e) (e ∷ past) (t.marks (bucket_in e))
  unfolding total
  here_tells old =
      let b = bucket_in e in
      let m = s.marks b in
      let commits : in_bucket b commit_of e ≡ committed effect = in_bucket_lem b commit_of e refl ∙ act.commits in
      let closes : in_bucket b close_of e ≡ closed effect = in_bucket_lem b close_of e refl ∙ act.closes in
      let valid = valid_effect effect m (act_lawful n s e w t kept act) in
      record {
        bumps = omega (arith, act_version act b, old.bumps);
        valid = rw act.here (omega (arith, valid, commits, closes, old.valid));
      }

  there_tells : (b : ℕ) → (bucket_in e ≡ b → ⊥) → Tells first b past (s.marks b) → Tells first b (e ∷ past) (t.marks b)
  unfolding total
  there_tells b other old =
      let commits = out_of_bucket b commit_of e other in
      let closes = out_of_bucket b close_of e other in
      record {
        bumps = omega (arith, act_version act b, old.bumps);
        valid = rw (act.there b (λ is. other (sym is))) (omega (arith, commits, closes, old.valid));
      }

  -- a turn and a retiring keep it so
  pub act_tells : (b : ℕ) → Tells first b past (s.marks b) → Tells first b (e ∷ past) (t.marks b)
  act_tells b = by (ℕ_discrete (bucket_in e) b)
    where
      by : Dec (bucket_in e ≡ b) → Tells first b past (s.marks b) → Tells first b (e ∷ past) (t.marks b)
      by (yes is) = subst (λ (b : ℕ). Tells first b past (s.marks b) → Tells first b (e ∷ past) (t.marks b)) is here_tells
      by (no other) = there_tells b other
