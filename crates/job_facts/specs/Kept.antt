-- A reply that a store keeps.
use Rattle.job_facts.specs.Contents.{Entry}
use Rattle.job_facts.specs.declared.entry.Entry.{Entry as KeptEntry}

-- the kept reply: its client and request number, the request bytes, and the status and body of the
-- reply
abbrev pub kept_reply : KeptEntry → Entry
kept_reply e = record { client = e.client.now; number = e.number; ask = e.ask.now; status = e.status; body = e.body.now }
