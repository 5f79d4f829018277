use Rattle.std.proofs.Common.{◌≡◌, ◌∙◌, Ok, true, false, sym}
use Rattle.trace_text.proofs.Cells.{ReadsPlainly-read, records_left-none, records_left-some}
use Rattle.trace_text.proofs.records.Records.read.Goals as goal
use Rattle.trace_text.proofs.records.Records.read.Goals.{in-Ok, in-Err}

pub invariant_of-self : goal.invariant_of-self
invariant_of-self c =
    let e = c.read_byte_record.ensures in
    ReadsPlainly-read c.self.inside.reader c.read_byte_record.new.self _ c.read_byte_record.result c.self.invariant e.failed e.ready e.reads e.goes e.fails e.goes_on

pub returns-clause-some : goal.returns-clause-some
returns-clause-some c said =
    let found : c.read_byte_record.result ≡ Ok true = elim c.match-read_byte_record.branch [ in-Ok w ↦ cc | in-Err w ↦ cc ] in
    let e = c.read_byte_record.ensures in
    sym c.self.view_is ∙ records_left-some c.self.inside.reader c.read_byte_record.new.self _ c.read_byte_record.result c.self.invariant e.failed e.reads found

pub returns-clause-none : goal.returns-clause-none
returns-clause-none c said =
    let found : c.read_byte_record.result ≡ Ok false = elim c.match-read_byte_record.branch [ in-Ok w ↦ cc | in-Err w ↦ cc ] in
    sym c.self.view_is ∙ records_left-none c.self.inside.reader c.read_byte_record.new.self _ c.read_byte_record.result c.self.invariant c.read_byte_record.ensures.reads found
