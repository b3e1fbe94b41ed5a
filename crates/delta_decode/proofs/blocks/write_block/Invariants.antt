-- `delta_decode::blocks::write_block` meets its contract: a miniblock more each turn.
use Rattle.delta_decode.specs.MiniblockDeltas.{Turn}
use Rattle.delta_decode.proofs.blocks.write_block.Given as goal

abbrev pub invariant-loop-width : goal.invariant-loop-width
invariant-loop-width g l =
    Turn (g.T.Writing.write l.writing) 32 l.page l.block l.from l.room l.i l.initial.out l.width-index l.at l.done l.x l.out
