-- Which texts have the standard's default text, and how every other differs from it.
use Rattle.std.specs.Prelude.{ℕ, ◌+◌, ◌≡◌, List, length}
use Rattle.std.proofs.Common.{ap, ◌∙◌}
use Rattle.model.specs.Text.{default, trim_text}
use Rattle.standards.specs.SvgSpace.{NEWLINE, BLANK, RETURN, convert}
use Rattle.standards.specs.SvgSpace.{as_default, Free}
use Rattle.standards.specs.SvgSpace.{seams}
use Rattle.standards.proofs.Theorems.Spaces.{no_first, no_last, none-converted, default-is-standard, seams-longer, seams-none}

-- So it is the standard's text of every text that has neither newline nor carriage return, such as " a  b ".
pub default-without-newline : (bs : List ℕ) → Free NEWLINE bs → Free RETURN bs → no_last (no_first (trim_text default bs)) ≡ as_default bs
default-without-newline bs h g =
    default-is-standard bs
    ∙ ap (λ r. as_default (convert NEWLINE BLANK r)) (none-converted RETURN NEWLINE bs g)
    ∙ ap as_default (none-converted NEWLINE BLANK bs h)

-- WHICH TEXTS WITH NEWLINES STILL AGREE: those in which newlines alone stand nowhere between two visible characters, such as
-- "\n  a\n  b\n", the usual indented text.
pub newline-agrees : (bs : List ℕ) → Free RETURN bs → seams bs ≡ 0 → no_last (no_first (trim_text default bs)) ≡ as_default bs
newline-agrees bs h g =
    default-is-standard bs ∙ ap (λ r. as_default (convert NEWLINE BLANK r)) (none-converted RETURN NEWLINE bs h) ∙ seams-none bs g

-- THE DIFFERENCE: every other text is longer than the standard's, by one space for each seam.
pub newline-differs : (bs : List ℕ) → Free RETURN bs → length (no_last (no_first (trim_text default bs)))
    ≡ length (as_default bs) + seams bs
newline-differs bs h =
    ap length (default-is-standard bs ∙ ap (λ r. as_default (convert NEWLINE BLANK r)) (none-converted RETURN NEWLINE bs h))
    ∙ seams-longer bs
