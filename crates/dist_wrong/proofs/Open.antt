-- The definitions that a run computes with. To unfold `opened` is to unfold all that these lines name.
-- Assumes nothing.
use Rattle.words.specs.Bytes as Bytes
use Rattle.words.specs.Control as Control
use Rattle.words.specs.Count as Count
use Rattle.words.specs.Cutting as Cutting
use Rattle.words.specs.Link as Link
use Rattle.words.specs.Reading as Reading
use Rattle.words.specs.Tick as Tick
use Rattle.stores.specs.Copying as Copying
use Rattle.stores.specs.Marks as Marks
use Rattle.stores.specs.Writing as Writing
use Rattle.dist_controller.specs.Asked as Asked
use Rattle.dist_controller.specs.Events as Events
use Rattle.dist_controller.specs.Message as Message
use Rattle.dist_controller.specs.Report as Report
use Rattle.dist_controller.specs.State as State
use Rattle.dist_controller.specs.Submit as Submit
use Rattle.dist_controller.specs.Told as Told
use Rattle.dist_terminal.specs.Calls as Calls
use Rattle.dist_terminal.specs.Data as Data
use Rattle.dist_terminal.specs.Descriptor as Descriptor
use Rattle.dist_terminal.specs.Length as Length
use Rattle.dist_terminal.specs.Take as Take
use Rattle.dist_pair.specs.Bus as Bus
use Rattle.dist_pair.specs.Events as Pair

unfoldable pub words : Unit {0}
unfolding Bytes.bytes_of Bytes.words_of Control.made_of Count.next_number Tick.next_tick Tick.age_of
words = tt

unfoldable pub cutting : Unit {0}
unfolding Cutting.size_answer_of Cutting.messages_of Cutting.message_words_of Cutting.message_subaddress_of Cutting.uses_of Cutting.data_answer_of Cutting.part_of
cutting = tt

unfoldable pub links : Unit {0}
unfolding Link.mode_allows Link.in_ranges Link.configured_of Link.message_store_of Link.block_store_of
links = tt

unfoldable pub reading : Unit {0}
unfolding Reading.size_of Reading.plain_of Reading.control_of Reading.read_of Reading.over_of Reading.sized_of Reading.read_descriptor_of Reading.read_confirmation_of
reading = tt

unfoldable pub stores : Unit {0}
unfolding Copying.stored_of Copying.copied_of Copying.zeros_of Writing.written_of Marks.marks_of Marks.number_of Marks.trues Marks.has_mark Marks.mark_of Marks.is_marked_of Marks.marked_of
stores = tt

unfoldable pub asking : Unit {0}
unfolding Asked.transfer_message Asked.messages_asked Asked.message_list Asked.last_of Asked.asked_of Message.transfer_words_at Message.words_asked State.counted_of Report.acceptance_of Report.report_of
asking = tt

unfoldable pub submitting : Unit {0}
unfolding Submit.short_of Submit.room_answer_of Submit.submit_answer_of Submit.one_more_spent Submit.started_of Submit.submit_of Submit.store_after
submitting = tt

unfoldable pub happening : Unit {0}
unfolding Events.due_of Events.ask_again Events.frame_of Events.cut_transfer Events.reset_of Events.restart_of
happening = tt

unfoldable pub telling : Unit {0}
unfolding Told.stops_of Told.sent_of Told.overdue_of Told.lost_of Told.confirmation_found Told.finding_of Told.unanswered_of Told.read_of Told.told_reading Told.reset_sent_of Told.not_shown Told.reset_read_of Told.told_reset_reading Told.told_cut_reading Told.told_of
telling = tt

unfoldable pub receiving : Unit {0}
unfolding Calls.emptied Calls.restart_of Calls.store_restarted Calls.receive_of Calls.store_received Calls.hand_received Data.store_short Data.received_after Data.noted_of Data.answer_of Data.data_of Data.placed_of Data.store_after
receiving = tt

unfoldable pub describing : Unit {0}
unfolding Descriptor.short Descriptor.unmet_of Descriptor.judged_of Descriptor.first_words Descriptor.taken_of Descriptor.descriptor_of Descriptor.hand_after Length.place_met Length.places_met Length.length_met
describing = tt

unfoldable pub taking : Unit {0}
unfolding Take.hand_short Take.take_of Take.buffer_after
taking = tt

unfoldable pub pairing : Unit {0}
unfolding Bus.lent_short Bus.receive_of Bus.places_received Bus.hand_received Bus.arrive_of Bus.places_after Bus.hand_after Bus.tell_of Bus.told_done Bus.told_no_reply Pair.submit_of Pair.reset_of Pair.frame_of Pair.controller_restarted Pair.terminal_restarted Pair.take_of
pairing = tt

unfoldable pub opened : Unit {0}
unfolding words cutting links reading stores asking submitting happening telling receiving describing taking pairing
opened = tt
