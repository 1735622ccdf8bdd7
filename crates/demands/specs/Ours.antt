-- Our program, as a program of specs/Programs: by what its calls promise, `reading::read` and `objects`, `writing::write`, `setup::set_up`, `rack::event`, `packet` and
-- `new_offer`.
use Rattle.std.specs.Prelude.{length}
use Rattle.message.specs.Bytes.{bytes_of}
use Rattle.reading.specs.Reading.{read_of, part_of}
use Rattle.writing.specs.Writing.{writing_tried, result_of, buffer_of}
use Rattle.rack.specs.Steps.{step}
use Rattle.setup.specs.SetUps.{accepted_set_up}
use Rattle.demands.specs.Programs.{Program}

abbrev pub ours : Program
ours =
    record {
      read = read_of;
      part = part_of;
      write = λ f o buf place. result_of (writing_tried f o (length buf) place) (bytes_of f o);
      buffer = λ f o buf place. buffer_of (writing_tried f o (length buf) place) (bytes_of f o) place buf;
      accepted_set_up = accepted_set_up;
      step = step;
    }
