use Rattle.std.proofs.Common.{sym, arith}
use Rattle.octet_script.proofs.spelling.Keywords.{is_object, is_pause, is_region, is_thread, is_while}
use Rattle.octet_script.proofs.keyword.Keyword.of.Goals as goal

pub returns-in-object : goal.returns-in-object
returns-in-object c = sym (is_object c.args.word.now (omega arith) (omega arith) (omega arith) (omega arith) (omega arith) (omega arith) (omega arith))

pub returns-in-thread : goal.returns-in-thread
returns-in-thread c = sym (is_thread c.args.word.now (omega arith) (omega arith) (omega arith) (omega arith) (omega arith) (omega arith) (omega arith))

pub returns-in-while : goal.returns-in-while
returns-in-while c = sym (is_while c.args.word.now (omega arith) (omega arith) (omega arith) (omega arith) (omega arith) (omega arith))

pub returns-in-pause : goal.returns-in-pause
returns-in-pause c = sym (is_pause c.args.word.now (omega arith) (omega arith) (omega arith) (omega arith) (omega arith) (omega arith))

pub returns-in-region : goal.returns-in-region
returns-in-region c = sym (is_region c.args.word.now (omega arith) (omega arith) (omega arith) (omega arith) (omega arith) (omega arith) (omega arith))
