-- THE LAW OF WHOLE RUNS: what is promised of every list of calls from a new array on. Assumes nothing.
use Rattle.std.specs.Prelude.{◌≡◌, ℕ, true, List, map, vec_items, slice_index_or}
use Rattle.bus.specs.Drives.{Drive}
use Rattle.array.specs.declared.tables.Array.{Array}
use Rattle.controller.specs.declared.calls.Call.{Call}
use Rattle.controller.specs.declared.log.Request.{Request}
use Rattle.controller.specs.declared.log.Event.{Event}
use Rattle.controller.specs.State.{Entry}
use Rattle.controller.specs.Law.{Reached, Promise, Goes}

-- the entry of a log that an event is
abbrev pub entry_of : Event → Entry
entry_of e = record {
  call = e.call;
  buffer = vec_items e.buffer;
  answer = e.answer;
  left = vec_items e.left;
  before = λ d. slice_index_or e.before d true;
  after = λ d. slice_index_or e.after d true;
}

-- a call and what its buffer held: as asked, and as logged
pub record Question : Type 0 where
  pub call : Call
  pub buffer : List ℕ

abbrev pub asked : Request → Question
asked r = record { call = r.call; buffer = r.buffer.now }

abbrev pub logged : Event → Question
logged e = record { call = e.call; buffer = vec_items e.buffer }

-- one request, put into the log
pub record Turned (r : Request) (e : Event) (a z : Array) (m n : List Drive) : Type 0 where
  pub question : logged e ≡ asked r
  pub goes : Goes (entry_of e) a z m n

-- A run of these requests from a new array, over the drives `start`, that left the drives `end`.
pub record Ran (start end : List Drive) (requests : List Request) (log : List Event) : Type 0 where
  -- the log has the calls that were given, in order, with their buffers
  pub calls : map logged log ≡ map asked requests
  -- the tables at the end, and how the run led to them and to the drives at the end, which are the very drives of the bus: so
  -- a broken mark in the log is one of a drive that is broken then
  pub array : Array
  pub ran : Reached start (map entry_of log) array end
  -- and the promise holds of it
  pub promise : Promise start end (map entry_of log)
