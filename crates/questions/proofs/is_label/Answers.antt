use Rattle.std.proofs.Common.{rules, ◌≡◌, ◌∙◌, sym}
use Rattle.rules.specs.Text.{label}
use Rattle.rules.specs.Asking.{is_whole}
use Rattle.questions.proofs.Arguments.{label_short}
use Rattle.questions.proofs.is_label.Goals as goal

pub returns-clause-arg_len_bound : goal.returns-clause-arg_len_bound
unfolding is_whole
returns-clause-arg_len_bound c =
    let e : c.is_some_and.result ≡ is_whole (label c.args.arg.now) = search rules in
    λ q. label_short c.args.arg.now (sym e ∙ q)
