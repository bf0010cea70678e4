-- What is written of what stopped a program, and how a program ends.
use Rattle.std.specs.Prelude.{◌≡◌, ℕ, List, codes, Some, None, Ok, Err, Option, Result, IfSome, OnOk}
use Rattle.std.specs.Fmt.{with_newline}
use Rattle.std.specs.Io.KnownBytes.{Appends, Keeps}
use Rattle.std.specs.declared.io.Error.{Error}
use Rattle.refusals.specs.Refused.{refusal_text}
use Rattle.printing.specs.declared.Stop.{Stop}
use Rattle.printing.specs.declared.Stop.TheVariants.{Refused, TooLarge, Output}

-- The text of what stopped a program. That of an error of the output is not known.
abbrev pub stop_text : Stop → Option (List ℕ)
stop_text (Refused refusal) = Some (refusal_text refusal)
stop_text TooLarge = Some (codes "an amount is too large to print")
stop_text (Output error) = None

-- The printing ended so, with these bytes in the output: what stopped it is written after them in a line of its own; where the output had failed, nothing is,
-- and its error is the answer.
abbrev pub Ends : Result (Unit {0}) Stop → Option (List ℕ) → Option (List ℕ) → Result (Unit {0}) Error → Type 0
Ends (Ok done) left after answer = OnOk answer (Keeps left after)
Ends (Err (Output error)) left after answer = (answer ≡ Err error) × (after ≡ left)
Ends (Err (Refused refusal)) left after answer = OnOk answer (IfSome (with_newline (stop_text (Refused refusal))) (Appends left after))
Ends (Err TooLarge) left after answer = OnOk answer (IfSome (with_newline (stop_text TooLarge)) (Appends left after))
