-- The listing of document 01 is told from the same scenes, and they come to an end. Assumes nothing.
use Prim.Native.Nat.{ℕ, zero, suc, ◌+◌, ◌≤◌, ◌<◌}
use mathlib.Core.Bool.{Bool, true, false, cond}
use mathlib.Core.Path.{◌≡◌, refl, sym, ap, subst, ◌∙◌}
use mathlib.Core.List.{List, [], ◌∷◌, ◌++◌, append-nil}
use native.Mathlib.Omega.{arith}
use lib.Dec.{ltb}
use lib.ListN.{length, replicate}
use borrow.Author.Tests.{ltb-true, ltb-false, lt-ltb, le-ltb}
use Rattle.turn.specs.Turn.{After, after}
use Rattle.sheet.specs.declared.Desk.{Desk}
use Rattle.sheet.specs.Play.{shut_desk}
use Rattle.sheet.specs.Listing.{fields_from, played, words_asked, own_play, listing}
use Rattle.sheet.proofs.TooLong.{too_long}
use Rattle.view.specs.declared.Change.{Change}
use Rattle.view.specs.declared.Stage.{Stage}
use Rattle.view.specs.Stage.{shut, stopped, next_scene}
use Rattle.view.specs.Scenes.{scenes_from, before_all, scenes, all_listed}
use Rattle.view.proofs.Coming.{place, line_of, Stands, due, Leads, ends, goes}
use Rattle.view.proofs.Next.{next_leads, first_leads}

-- all is over with the last scene, and not before
pub data EndsOver : List (After Stage) → Type 0 where
  last : {x : After Stage} → (place x).over ≡ true → EndsOver (x ∷ [])
  and_then : {x : After Stage} {xs : List (After Stage)} → (place x).over ≡ false → EndsOver xs → EndsOver (x ∷ xs)

-- scenes that list these lines, and come to an end
pub record Lists (lines : List ℕ) (xs : List (After Stage)) : Type 0 where
  pub listed : all_listed xs ≡ lines
  pub over : EndsOver xs

module _ (sheet : List ℕ) where
  -- a scene, and whether there are others
  pub scene_here :
      (more : ℕ) (s : After Stage) (t : Bool)
      → (place (next_scene sheet s)).over ≡ t
      → scenes_from (suc more) sheet s ≡ next_scene sheet s ∷ cond t [] (scenes_from more sheet (next_scene sheet s))
  unfolding scenes_from
  scene_here more s t is = ap (λ (b : Bool). next_scene sheet s ∷ cond b [] (scenes_from more sheet (next_scene sheet s))) is

  -- a scene is the last
  one_last :
      (more : ℕ) (s : After Stage)
      → (place (next_scene sheet s)).over ≡ true
      → Lists (line_of (next_scene sheet s)) (scenes_from (suc more) sheet s)
  unfolding all_listed
  one_last more s over = subst (Lists _) (sym (scene_here more s true over)) (record { listed = append-nil _; over = last over })

  -- a scene, and then the others, if there are
  leads_list :
      (more : ℕ) {from at : ℕ} {d : After Desk} {all : List Change} {lines : List ℕ} (s : After Stage)
      → ((fields : ℕ)
      → Stands sheet fields (next_scene sheet s)
      → from < (place (next_scene sheet s)).turn
      → Lists (due sheet fields (next_scene sheet s)) (scenes_from more sheet (next_scene sheet s)))
      → Leads sheet from at d all lines (next_scene sheet s)
      → Lists lines (scenes_from (suc more) sheet s)
  unfolding all_listed
  leads_list more s others (ends over none is) = rw (← is) (one_last more s over)
  leads_list more s others (goes fields stands later is does) =
      let rest = others fields stands later in
      subst (Lists _) (sym (scene_here more s false stands.goes_on))
      (record { listed = ap (λ (l : List ℕ). line_of (next_scene sheet s) ++ l) rest.listed ∙ is; over = and_then stands.goes_on rest.over })

  -- as many scenes as bytes are left are enough, and one: each goes one place further in the sheet
  scenes_list :
      (short : length sheet ≤ 16384) (more from : ℕ) {at : ℕ} {d : After Desk} {all : List Change} {lines : List ℕ} (s : After Stage)
      → length sheet ≤ from + more
      → Leads sheet from at d all lines (next_scene sheet s)
      → Lists lines (scenes_from (suc more) sheet s)
  scenes_list short zero from s enough =
      leads_list zero s (λ fields stands later. absurd (omega (arith, stands.placed.left, stands.placed.inside)))
  scenes_list short (suc more) from s enough =
      leads_list (suc more) s
      (λ fields stands later. scenes_list short more _ _ (omega arith) (next_leads sheet short fields (next_scene sheet s) stands))

  -- so many are enough for the whole sheet
  abbrev pub enough : List (After Stage)
  enough = scenes_from (suc (length sheet + 1)) sheet (before_all sheet)

  pub enough_scenes : enough ≡ scenes sheet
  unfolding scenes
  enough_scenes = let more : length sheet + 2 ≡ suc (length sheet + 1) = omega arith in rw more

  -- a sheet that is too long has one scene
  pub long_scene : 16384 < length sheet → next_scene sheet (before_all sheet) ≡ after (before_all sheet).words (stopped 9 0 0 0 shut)
  unfolding next_scene
  long_scene long = rw (lt-ltb 16384 (length sheet) long)

  -- a sheet that is not comes to the lines of its fields
  short_listing :
      length sheet ≤ 16384 → (fields_from (suc (length sheet)) sheet 0 (after (replicate (words_asked sheet) 0) shut_desk)).handed.lines ≡ listing sheet
  unfolding listing own_play played
  short_listing short = rw (listing, le-ltb 16384 (length sheet) short)

  scenes_listed : (t : Bool) → ltb 16384 (length sheet) ≡ t → Lists (listing sheet) (scenes sheet)
  scenes_listed true is =
      let long = ltb-true 16384 (length sheet) is in
      let one = long_scene long in
      subst (Lists _) enough_scenes
      (subst (λ (l : List ℕ). Lists l enough) (ap line_of one ∙ sym (too_long sheet long))
      (one_last (length sheet + 1) (before_all sheet) (ap (λ (x : After Stage). (place x).over) one)))
  scenes_listed false isnot =
      let short = ltb-false 16384 (length sheet) isnot in
      subst (Lists _) enough_scenes
      (subst (λ (l : List ℕ). Lists l enough) (short_listing short)
      (scenes_list short (length sheet + 1) 0 (before_all sheet) (omega arith) (first_leads sheet short)))

-- §23.8: THE LISTING OF A SHEET IS THAT OF ITS SCENES: every sheet, also one that is refused, malformed, empty or too long
pub listed_scenes : (sheet : List ℕ) → all_listed (scenes sheet) ≡ listing sheet
listed_scenes sheet = (scenes_listed sheet _ refl).listed

-- its scenes come to an end, and go on until then
pub scenes_over : (sheet : List ℕ) → EndsOver (scenes sheet)
scenes_over sheet = (scenes_listed sheet _ refl).over
