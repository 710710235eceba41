use Rattle.rules.specs.Asking.{stands_text, reason_text}
use Rattle.reason_lines.proofs.put_chain.Goals as goal

pub returns-clause-wrote : goal.returns-clause-wrote
unfolding reason_text stands_text
returns-clause-wrote g c =
    let laws = g.met.S.Sink.laws in
    let first = rw c.from.ensures at c.put_stands.ensures.wrote in
    laws.both first (laws.both c.put_word.ensures (laws.both c.put_links.ensures.wrote c.put_end.ensures.wrote))
