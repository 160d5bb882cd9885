-- The reasons why a run that reads an input and writes an output stops.
use Rattle.std.specs.Prelude.{ℕ, List, codes, Option, Some}
use Rattle.text_io.specs.declared.reading.ReadFault.{ReadFault}
use Rattle.text_io.specs.declared.reading.ReadFault.TheVariants as read
use Rattle.text_io.specs.declared.stop.RunStop.{RunStop}
use Rattle.text_io.specs.declared.stop.RunStop.TheVariants.{Own, Stream}
use Rattle.text_io.specs.declared.stop.StreamFault.{StreamFault}
use Rattle.text_io.specs.declared.stop.StreamFault.TheVariants.{ReadFailed, WriteFailed, Memory}

-- the fault of a run whose input can't be read
abbrev pub stream_fault_of : ReadFault → StreamFault
stream_fault_of read.Failed = ReadFailed
stream_fault_of read.Memory = Memory

-- the text of a fault
abbrev pub stream_text : StreamFault → List ℕ
stream_text ReadFailed = codes "the reader failed"
stream_text WriteFailed = codes "the writer failed"
stream_text Memory = codes "out of memory"

-- the text of a reason to stop; `own_text` has the texts of the faults of one kind of run
abbrev pub stop_text : {F : Type 0} → (F → Option (List ℕ)) → RunStop F → Option (List ℕ)
stop_text own_text (Own fault) = own_text fault
stop_text own_text (Stream fault) = Some (stream_text fault)
