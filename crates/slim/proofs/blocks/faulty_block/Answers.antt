use Rattle.slim.proofs.blocks.faulty_block.Goals as goal

pub returns-in-TooLong : goal.returns-in-TooLong
returns-in-TooLong c = rw c.in-TooLong.is c.from_slice.ensures.items
