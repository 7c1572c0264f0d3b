-- What the walks of all functions have in common that take a board, a list, an index, a floor and a worker's number, whatever they hand back: the
-- three slices go on for good. Assumes `Logic`.
use mathlib.Core.Path.{refl}
use mathlib.Core.List.{List, [], ◌∷◌}
use seplogic.Ra.Ura.{Ura}
use mir.Syntax.{named, w64}
use types.Logic.{Logic}
use contract.Lifetimes.{Lfts}
use denote.RattleType.{RattleType}
use denote.Laws.{Ises, Spells, Tellss}
use denote.Plain.{uint_vals, uint_Tells}
use denote.Builtin.{u64, usize, SliceRefMutOf}
use denote.Slice.{mut_slice_vals, mut_slice_Tells}
use denote.Signature.{Slot, plain, types_at}
use denote.Struct.Laws as LL
use denote.Triple.Clauses.{Ended}
use denote.Triple.End.{Kepts}
use denote.Triple.Walked.{Stays, AllGo, gave_slice, stay_none, Goes-gave_slice, Goes-none}
use denote.Exit.{yes}
use Rattle.engine.specs.contracts.Floor as F
use Rattle.engine.proofs.Floor.TheLaws as F'
use Rattle.floor.proofs.Records.{row}

-- the parameters
abbrev slots : List (Slot 3)
slots = SliceRefMutOf (0 ∷ []) tt (plain (λ _. u64)) (λ _. tt) ∷ SliceRefMutOf (1 ∷ []) tt (plain (λ _. row)) (λ _. tt)
    ∷ SliceRefMutOf (2 ∷ []) tt (plain (λ _. u64)) (λ _. tt) ∷ plain (λ _. F.the_row) ∷ plain (λ _. usize) ∷ []

abbrev kept : Kepts slots
kept = (yes, (yes, (yes, (yes, (yes, tt)))))

-- with what is handed back
abbrev pub for_worker : RattleType → Ended
for_worker R = record { signature = record { lifetimes = 3; outlives = []; params = slots; result = plain (λ _. R) }; kept = kept }

-- how each of them is at the end, and what it is to the machine
abbrev pub stayed : Stays slots kept
stayed = (
  gave_slice (0 ∷ []) tt (plain (λ _. u64)),
  (
    gave_slice (1 ∷ []) tt (plain (λ _. row)),
    (gave_slice (2 ∷ []) tt (plain (λ _. u64)), (stay_none (λ _. F.the_row) yes, (stay_none (λ _. usize) yes, tt))),
  ),
)

abbrev pub gone_on_lem : {M : Type 1} {𝓤 : Ura M} (𝓛 : Logic 𝓤) → AllGo 𝓛 3 slots kept stayed
gone_on_lem 𝓛 = (
  Goes-gave_slice 𝓛 3 0 tt (plain (λ _. u64)),
  (
    Goes-gave_slice 𝓛 3 1 tt (plain (λ _. row)),
    (
      Goes-gave_slice 𝓛 3 2 tt (plain (λ _. u64)),
      (Goes-none 𝓛 3 (λ _. F.the_row) yes (λ κs x f. refl), (Goes-none 𝓛 3 (λ _. usize) yes (λ κs x f. refl), tt)),
    ),
  ),
)

abbrev pub spelled : (κs : Lfts 3) → Spells (types_at slots κs)
spelled κs = (mut_slice_vals, (mut_slice_vals, (mut_slice_vals, (LL.vals F.the_type F'.the_laws, (uint_vals w64, tt)))))

abbrev pub tells : (κs : Lfts 3) → Tellss (types_at slots κs) (Ises (types_at slots κs)) (spelled κs)
tells κs = (
  mut_slice_Tells (named 0) κs.0 u64,
  (
    mut_slice_Tells (named 1) κs.1.0 row,
    (mut_slice_Tells (named 2) κs.1.1.0 u64, (LL.tells F.the_type F'.the_laws, (uint_Tells w64, tt))),
  ),
)
