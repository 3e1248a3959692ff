-- A script: items of three bytes each.
use Rattle.std.specs.Prelude.{ℕ, ◌+◌, min, Bool, true, false, ◌&&◌, List, [], ◌∷◌, eqb, leb, Ok, Err, count_by}
use Rattle.std.specs.Prelude.{if◌then◌else◌}
use Rattle.refusals.specs.Result.{Result}
use Rattle.rate_tables.specs.declared.adjusted.AdjustedProbabilityTables.{AdjustedProbabilityTables}
use Rattle.export_scripts.specs.declared.item.Item.{Item}
use Rattle.export_scripts.specs.declared.item.Item.TheVariants.{Add, Reset, SetTieRule, Question}
use Rattle.export_scripts.specs.declared.progress.Progress.{Progress}
use Rattle.export_scripts.specs.Item.{item_of, stepped, answered}

-- the items of a script
unfoldable pub items : List ℕ → List Item
items [] = []
items (kind ∷ []) = []
items (kind ∷ a ∷ []) = []
items (kind ∷ a ∷ b ∷ s) = item_of kind a b ∷ items s

-- an item may stand in a script: a rule is 0 or 1, and any other kind at most that
unfoldable pub is_item : ℕ → ℕ → ℕ → Bool
is_item most kind a =
    if eqb kind 2 then leb a 1
    else leb kind most

-- a script is good where it is nothing but such items
unfoldable pub is_script : ℕ → List ℕ → Bool
is_script most [] = true
is_script most (kind ∷ []) = false
is_script most (kind ∷ a ∷ []) = false
is_script most (kind ∷ a ∷ b ∷ s) = is_item most kind a && is_script most s

-- an item asks for a report
abbrev pub is_question : Item → Bool
is_question (Add base qual) = false
is_question Reset = false
is_question (SetTieRule rule) = false
is_question (Question kind) = true

-- how many questions there are
abbrev pub questions : List Item → ℕ
questions l = count_by is_question l

-- the number of refusals after an answer; at most 255 are counted
abbrev pub refusals : {A : Type 0} → Result A → ℕ → ℕ
refusals (Ok a) n = n
refusals (Err r) n = min (n + 1) 255

-- what an item does to a builder and the number of refusals
unfoldable pub passed : AdjustedProbabilityTables → Item → Progress → Progress
passed t i p = record { builder = stepped t i p.builder; refused = refusals (answered i p.builder) p.refused }
