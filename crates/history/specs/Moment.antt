-- The moment of a turn: the last turn of that worker that read its bucket's mark word whole or changed it, with no retiring of that worker
-- since that changed it. A trace is cut there, and at the turn itself, into what came before, the moment, what came between, the turn, and
-- what came after.
use Rattle.std.specs.Prelude.{List, ◌∷◌, ◌++◌, ◌⊎◌, ◌≡◌}
use Rattle.history.specs.Trace.{Turn, Entry, acted, Changes, ReadsWhole, Commits, Closes, IsTurn, Continues, Ends, By, In, None}

-- an entry of the same worker
abbrev pub Own : Turn → Entry → Type 0
Own y e = By y.worker e

-- an entry of another worker, in the same bucket
abbrev pub AnothersIn : Turn → Entry → Type 0
AnothersIn y e = (Own y e → ⊥) × In y.report.bucket e

-- it read the mark word whole or changed it
abbrev pub Sees : Entry → Type 0
Sees e = IsTurn ReadsWhole e ⊎ Changes e

-- §11.3: x is the moment of y, with these entries between them: nothing later of that worker is one
pub record IsMoment (x : Turn) (between : List Entry) (y : Turn) : Type 0 where
  pub own : Own y (acted x)
  pub sees : Sees (acted x)
  pub latest : None (λ e. Own y e × Sees e) between

-- x, between and y belong to one call of their worker, in one bucket: x does not end its call, and neither does anything of that worker between
pub record OneCall (x : Turn) (between : List Entry) (y : Turn) : Type 0 where
  pub bucket : In y.report.bucket (acted x)
  pub first : Continues (acted x)
  pub rest : None (λ e. Own y e × Ends e) between

-- a trace, cut at one of its turns
pub record AtTurn (trace : List Entry) : Type 0 where
  pub before : List Entry
  pub turn : Turn
  pub after : List Entry
  pub cut : trace ≡ before ++ (acted turn ∷ after)

-- a trace, cut at one of its turns and at that turn's moment
pub record AtMoment (trace : List Entry) : Type 0 where
  pub before : List Entry
  pub moment : Turn
  pub between : List Entry
  pub turn : Turn
  pub after : List Entry
  pub cut : trace ≡ before ++ (acted moment ∷ (between ++ (acted turn ∷ after)))
  pub is : IsMoment moment between turn

-- what came before y can be cut at the moment of y, and that is of the same call
pub record HasMoment (before : List Entry) (y : Turn) : Type 0 where
  pub older : List Entry
  pub moment : Turn
  pub newer : List Entry
  pub cut : before ≡ older ++ (acted moment ∷ newer)
  pub is : IsMoment moment newer y
  pub call : OneCall moment newer y

-- an entry of another worker that changed that bucket's mark word
abbrev pub ChangedByAnother : Turn → Entry → Type 0
ChangedByAnother y e = AnothersIn y e × Changes e

-- an entry of another worker that made a commit or a close there
abbrev pub CommittedOrClosedByAnother : Turn → Entry → Type 0
CommittedOrClosedByAnother y e = AnothersIn y e × (IsTurn Commits e ⊎ IsTurn Closes e)
