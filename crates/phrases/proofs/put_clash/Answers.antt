use mathlib.Core.List.{append_assoc}
use Rattle.rules.specs.Asking.{clash_text}
use Rattle.phrases.proofs.put_clash.Goals as goal

pub returns-clause-wrote : goal.returns-clause-wrote
unfolding clash_text
returns-clause-wrote g c =
    let laws = g.met.S.Sink.laws in
    rw append_assoc at (laws.both c.put_named.ensures.wrote (rw append_assoc at (laws.both c.put_named-2.ensures.wrote (laws.both c.put_slots.ensures.wrote c.put_word.ensures))))
