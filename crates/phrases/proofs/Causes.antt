-- What is said of a refusal, by its number. Assumes nothing.
use Rattle.std.specs.Prelude.{ℕ, ◌≡◌, ◌≢◌, List}
use borrow.Author.Tests.{ne_eqb}
use Rattle.rules.specs.Asking.{no_plan_text, refused_text}

-- a number that has no words of its own
pub other_number : (labels name : List ℕ) (number place short : ℕ) → number ≢ 6 → number ≢ 8 → refused_text labels name number place short ≡ no_plan_text
unfolding refused_text
other_number labels name number place short e f = rw (ne_eqb number 6 e, ne_eqb number 8 f)
