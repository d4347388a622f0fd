-- `call_run::program_prints` meets its contract: what the program prints.
use Rattle.call_run.proofs.Program.{printed_is_calls_output}
use Rattle.call_run.proofs.program_prints.Goals as goal

pub returns : goal.returns
returns c = printed_is_calls_output
