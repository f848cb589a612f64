use Rattle.console.specs.Fields.{fields}
use Rattle.console.proofs.Asking.{expected_by}
use Rattle.console.proofs.calls.read_line.Goals as goal

pub returns-in-Err-clause-form : goal.returns-in-Err-clause-form
returns-in-Err-clause-form c = expected_by (fields c.args.line.now) c.in-Err.form c.in-Err.ensures
