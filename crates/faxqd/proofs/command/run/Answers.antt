use Rattle.std.proofs.Common.{Ok}
use Rattle.fax_ending.specs.Ending.{spoken}
use Rattle.faxqd.proofs.command.run.Goals as goal

pub returns-in-Ok : goal.returns-in-Ok
returns-in-Ok g c = record {
  read = Ok c.in-Ok.plan;
  reads = c.in-Ok.ensures.reads;
  fixed = c.in-Ok.ensures.fixed;
  does = record {
    line = spoken c.carry_out.result;
    done = rw c.say_at_end.ensures.status c.carry_out.ensures;
    said = c.say_at_end.ensures.says;
    silent = c.say_at_end.ensures.silent;
  };
}
