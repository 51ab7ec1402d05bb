use Rattle.std.proofs.Common.{refl, take, arith}
use Rattle.std.proofs.lemmas.List.{length-take}
use Rattle.web_connections.proofs.connection.Connection.hear.Goals as goal

pub returns-in-Ok : goal.returns-in-Ok
returns-in-Ok g c =
    let reads = rw c.in-Ok-Bytes.field-0-is at c.in-Ok-Bytes.ensures.reads in
    let waits = rw (← c.self.view_is) at c.requires.waits in
    rw (← c.self.view_is) (record {
      came = (take c.in-Ok-Bytes.n c.read.new.buffer, reads.2, c.in-Ok.ensures.ok);
      none = c.self.invariant.waits waits;
      unsent = refl;
      gone = c.read.ensures.same;
    })

pub returns-in-Err-feed : goal.returns-in-Err-feed
returns-in-Err-feed g c =
    let reads = rw c.in-Ok-Bytes.field-0-is at c.in-Ok-Bytes.ensures.reads in
    let waits = rw (← c.self.view_is) at c.requires.waits in
    rw (← c.self.view_is) (record {
      came = (take c.in-Ok-Bytes.n c.read.new.buffer, reads.2, omega (arith, length-take c.in-Ok-Bytes.n c.read.new.buffer, reads.1, c.read.ensures.size, c.requires.input.1));
      none = c.self.invariant.waits waits;
      unsent = refl;
      gone = c.read.ensures.same;
    })
