-- The records of rules that are lent together with their format and number.
use Rattle.std.specs.Prelude.{List}
use Rattle.record.specs.declared.Record.{Record}
use Rattle.record.specs.declared.RuleRecords.{RuleRecords}
use Rattle.record.specs.Records.{records_from}

abbrev pub records_lent : RuleRecords → List Record
records_lent r = records_from r.format r.bytes.now r.first r.n
