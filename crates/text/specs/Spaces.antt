-- The spaces of a text: what trim_text answers, and sources one after another.
use Rattle.std.specs.Prelude.{ℕ, ◌+◌, ◌-◌, Bool, true, false, List, [], ◌∷◌, ◌++◌, eqb, length}
use Rattle.std.proofs.Math.Seq.{slice}
use Rattle.model.specs.Base.{and}
use Rattle.model.specs.Drawing.{Source}
use Rattle.model.specs.Tables.{Tree, parent_of}
use Rattle.model.specs.Text as M
use Rattle.model.specs.Text.{SPACE, get_xmlspace, converted, trim_text_after}
use Rattle.text.specs.declared.XmlSpace.{XmlSpace}
use Rattle.text.specs.declared.XmlSpace.TheVariants.{Default, Preserve}
use Rattle.text.specs.declared.Trimmed.{Trimmed}

-- The space as the model has it.
abbrev pub space_in : XmlSpace → M.XmlSpace
space_in Default = M.default
space_in Preserve = M.preserve

-- The space by whether it is Default.
abbrev pub space_by : Bool → M.XmlSpace
space_by true = M.default
space_by false = M.preserve

-- The space that the parent of node i says, else w.
abbrev pub space_at : List ℕ → Tree → M.XmlSpace → ℕ → M.XmlSpace
space_at chars t w i = get_xmlspace chars t (parent_of t i - 1) w

-- Is a converted byte dropped behind the byte prev?
abbrev pub is_dropped : Bool → ℕ → ℕ → Bool
is_dropped b prev c = and b (and (eqb c SPACE) (eqb c prev))

-- The byte before the next one, behind a source that stands behind prev.
unfoldable pub last_after : ℕ → List ℕ → ℕ
last_after prev [] = prev
last_after prev (b ∷ bs) = last_after (converted b) bs

-- What trim_text answers for a source behind what was begun.
abbrev pub trimmed : M.XmlSpace → Trimmed → List ℕ → Trimmed
trimmed w begun source =
    record { size = begun.size + length (trim_text_after w begun.prev source); prev = last_after begun.prev source }

-- What trim_text writes for sources one after another, the first of them behind prev.
unfoldable pub trim_each : M.XmlSpace → ℕ → List ℕ → List Source → List ℕ
trim_each w prev chars [] = []
trim_each w prev chars (a ∷ more) =
    let s : List ℕ = slice a.start (a.start + a.size) chars in
    trim_text_after w prev s ++ trim_each w (last_after prev s) chars more
