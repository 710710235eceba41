use Rattle.rules.specs.Asking.{stands_text, link_text}
use Rattle.reason_lines.proofs.put_link.Goals as goal

pub returns-clause-wrote : goal.returns-clause-wrote
unfolding link_text stands_text
returns-clause-wrote g c =
    let laws = g.met.S.Sink.laws in
    let told = rw c.from-guard.ensures at c.put_part.ensures.wrote in
    laws.both c.put_word.ensures (laws.both c.put_stands.ensures.wrote (laws.both told c.put_word-2.ensures))
