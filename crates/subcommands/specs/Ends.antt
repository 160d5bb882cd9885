-- The ends of a run, with their exit statuses and their words on standard error (this project's
-- profile).
use Rattle.std.specs.Prelude.{ℕ, Bool, List, ◌++◌, codes, if◌then◌else◌, None, Some}
use Rattle.std.specs.Prelude.{Result, Ok, Err}
use Rattle.std.specs.Fmt.{decimal}
use Rattle.batch_import.specs.Kinds.{code_of}
use Rattle.job_facts.specs.Refusals as refusals
use Rattle.job_facts.specs.declared.store.StoreFault.{StoreFault}
use Rattle.job_facts.specs.declared.store.StoreFault.TheVariants as store
use Rattle.reports.specs.declared.fault.AccountFault.{AccountFault}
use Rattle.reports.specs.declared.fault.AccountFault.TheVariants as account
use Rattle.server_run.specs.declared.stopping.ServeStop.{ServeStop}
use Rattle.server_run.specs.declared.stopping.ServeStop.TheVariants as serve
use Rattle.over_tables.specs.declared.fault.FileFault.{FileFault}
use Rattle.over_tables.specs.declared.fault.FileFault.TheVariants as file
use Rattle.feeding.specs.declared.engine.FeedFault.{FeedFault}
use Rattle.feeding.specs.declared.engine.FeedFault.TheVariants as feed
use Rattle.drill.specs.declared.stop.DrillFault.{DrillFault}
use Rattle.drill.specs.declared.stop.DrillFault.TheVariants as drill
use Rattle.text_io.specs.declared.stop.RunStop.{RunStop}
use Rattle.text_io.specs.declared.stop.RunStop.TheVariants.{Own, Stream}
use Rattle.text_io.specs.declared.stop.StreamFault.{StreamFault}
use Rattle.text_io.specs.declared.stop.StreamFault.TheVariants as stream
use Rattle.subcommands.specs.declared.end.End.{End}
use Rattle.subcommands.specs.declared.end.End.TheVariants as end
use Rattle.subcommands.specs.declared.end.Exit.{Exit}
use Rattle.subcommands.specs.declared.end.ErrorLine.{ErrorLine}
use Rattle.subcommands.specs.declared.end.ErrorLine.TheVariants as error_line
use Rattle.arguments.specs.declared.words.WordsFault.{WordsFault}
use Rattle.arguments.specs.declared.words.WordsFault.TheVariants as words
use Rattle.plan_print.specs.declared.plan.BatchFault.{BatchFault}
use Rattle.plan_print.specs.declared.plan.BatchFault.TheVariants as batch

-- the exit status and the words of an end: 0 for success and help, 1 for a refusal or a bad line, 2
-- for wrong arguments, 3 for a fault of a file, a device or of memory; the fault of a batch file is
-- printed with its number and row, every other refusal with its number, and a usage error has no
-- words because its text was printed
abbrev pub exit_of : End → Exit
exit_of end.Done = record { status = 0; words = None }
exit_of end.Helped = record { status = 0; words = None }
exit_of end.Usage = record { status = 2; words = None }
exit_of end.NotText = record { status = 2; words = Some error_line.NotText }
exit_of end.BadName = record { status = 2; words = Some error_line.BadName }
exit_of (end.Refused fault) =
    record { status = 1; words = Some (error_line.RefusedRow (code_of fault.kind) fault.row) }
exit_of end.TooLarge = record { status = 1; words = Some (error_line.Refused 413) }
exit_of (end.BadLine line) = record { status = 1; words = Some (error_line.BadLine line) }
exit_of end.NotOurs = record { status = 1; words = Some (error_line.Refused 81) }
exit_of end.Damaged = record { status = 1; words = Some (error_line.Refused 82) }
exit_of (end.NotReported why) =
    record { status = 1; words = Some (error_line.Refused (refusals.code_of why)) }
exit_of end.BadCard = record { status = 1; words = Some (error_line.Refused 400) }
exit_of end.Released = record { status = 1; words = Some (error_line.Refused 73) }
exit_of end.Storage = record { status = 3; words = Some error_line.Storage }
exit_of end.PortFailed = record { status = 3; words = Some error_line.Device }
exit_of end.NoReply = record { status = 3; words = Some error_line.Device }
exit_of end.ReadFailed = record { status = 3; words = Some error_line.Device }
exit_of end.WriteFailed = record { status = 3; words = Some error_line.Device }
exit_of end.Memory = record { status = 3; words = Some error_line.Memory }

-- the text of the words about an end
abbrev pub line_text : ErrorLine → List ℕ
line_text (error_line.Refused number) = codes "refused " ++ decimal number
line_text (error_line.RefusedRow number row) =
    codes "refused " ++ (decimal number ++ (codes " row " ++ decimal row))
line_text (error_line.BadLine line) = codes "bad line " ++ decimal line
line_text error_line.NotText = codes "error: an argument isn't UTF-8"
line_text error_line.BadName = codes "bad name"
line_text error_line.Storage = codes "storage"
line_text error_line.Device = codes "device"
line_text error_line.Memory = codes "memory"

-- ---- the ends of each subcommand

abbrev pub end_of_store : StoreFault → End
end_of_store store.Memory = end.Memory
end_of_store store.Device = end.Storage
end_of_store store.Full = end.Storage

-- the end of any run whose input, output or memory fails
abbrev pub end_of_stream : StreamFault → End
end_of_stream stream.ReadFailed = end.ReadFailed
end_of_stream stream.WriteFailed = end.WriteFailed
end_of_stream stream.Memory = end.Memory

abbrev pub end_of_plan_stop : RunStop BatchFault → End
end_of_plan_stop (Own (batch.Refused fault)) = end.Refused fault
end_of_plan_stop (Own batch.TooLarge) = end.TooLarge
end_of_plan_stop (Stream fault) = end_of_stream fault

abbrev pub end_of_drill_stop : RunStop DrillFault → End
end_of_drill_stop (Own (drill.BadLine line)) = end.BadLine line
end_of_drill_stop (Own drill.Storage) = end.Storage
end_of_drill_stop (Stream fault) = end_of_stream fault

-- the end of `plan`
abbrev pub end_of_plan : Result (Unit {0}) (RunStop BatchFault) → End
end_of_plan (Ok u) = end.Done
end_of_plan (Err stop) = end_of_plan_stop stop

-- the end of `drill`
abbrev pub end_of_drill : Result (Unit {0}) (RunStop DrillFault) → End
end_of_drill (Ok u) = end.Done
end_of_drill (Err stop) = end_of_drill_stop stop

-- the end of a run whose file can't be opened
abbrev pub end_of_file : FileFault → End
end_of_file (file.NotOurs cause) = end.NotOurs
end_of_file (file.Damaged cause) = end.Damaged
end_of_file file.Storage = end.Storage
end_of_file file.Memory = end.Memory

-- the end of `serve`
abbrev pub end_of_serve_stop : ServeStop → End
end_of_serve_stop serve.Next = end.PortFailed
end_of_serve_stop serve.Write = end.WriteFailed
end_of_serve_stop serve.Memory = end.Memory
end_of_serve_stop (serve.Store fault) = end_of_store fault

-- the end of `report`
abbrev pub end_of_account : AccountFault → End
end_of_account (account.Refused why) = end.NotReported why
end_of_account (account.Store fault) = end_of_store fault
end_of_account account.Write = end.WriteFailed

abbrev pub end_of_feed_stop : RunStop FeedFault → End
end_of_feed_stop (Own feed.BadLine) = end.BadCard
end_of_feed_stop (Own feed.Stale) = end.Released
end_of_feed_stop (Own feed.NoReply) = end.NoReply
end_of_feed_stop (Stream fault) = end_of_stream fault

-- the end of `feed`
abbrev pub end_of_feed : Result (Unit {0}) (RunStop FeedFault) → End
end_of_feed (Ok u) = end.Done
end_of_feed (Err stop) = end_of_feed_stop stop

-- the end of a run without a subcommand; `is_written`: the text of the fault was written
abbrev pub end_of_words : WordsFault → Bool → End
end_of_words (words.Help text) is_written = if is_written then end.Helped else end.WriteFailed
end_of_words (words.Version text) is_written = if is_written then end.Helped else end.WriteFailed
end_of_words (words.Usage text) is_written = end.Usage
end_of_words words.NotText is_written = end.NotText
end_of_words words.BadName is_written = end.BadName
end_of_words words.Memory is_written = end.Memory
