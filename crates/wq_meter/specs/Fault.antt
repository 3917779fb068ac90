-- What a fault is called.
use Rattle.std.specs.Prelude.{ℕ, List, codes}
use Rattle.wq_meter.specs.declared.fault.Fault.{Fault}
use Rattle.wq_meter.specs.declared.fault.Fault.TheVariants.{Memory, Read, Write}

-- the words that are printed for a fault, as bytes
abbrev pub fault_text : Fault → List ℕ
fault_text Memory = codes "fault memory"
fault_text Read = codes "fault read"
fault_text Write = codes "fault write"
