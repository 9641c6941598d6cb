use Rattle.std.proofs.Common.{◌≡◌, length, take, drop}
use Rattle.routing.specs.Route.{lent_in, SameRoom}
use Rattle.board.specs.Boards.{state_of}
use Rattle.board.proofs.Chains.{Follows}
use Rattle.board.proofs.replay.replay_into.Given as goal

abbrev pub invariant-loop-i : goal.invariant-loop-i
invariant-loop-i g l =
    Follows (state_of g.B.Book.meaning l.initial.board).opened (take l.i l.calls) (take l.i l.answers)
    (lent_in g.L.Line.keys l.initial.room) (lent_in g.L.Line.keys l.room)
    (state_of g.B.Book.meaning l.board)
    × (length l.answers ≡ length l.initial.answers) × (drop l.i l.answers ≡ drop l.i l.initial.answers)
    × SameRoom l.initial.room l.room
