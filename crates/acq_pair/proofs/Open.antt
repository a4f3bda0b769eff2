-- The definitions that a run computes with. To unfold `opened` is to unfold all that these lines name.
-- Assumes nothing.
use Rattle.words.specs.Bytes as Bytes
use Rattle.words.specs.Command as Command
use Rattle.words.specs.Control as Control
use Rattle.words.specs.Count as Count
use Rattle.words.specs.Cutting as Cutting
use Rattle.words.specs.Link as Link
use Rattle.words.specs.Reading as Reading
use Rattle.words.specs.Tick as Tick
use Rattle.stores.specs.Copying as StoresCopying
use Rattle.stores.specs.Reading as StoresReading
use Rattle.stores.specs.Writing as StoresWriting
use Rattle.acq_terminal.specs.Place as TerminalPlace
use Rattle.acq_terminal.specs.Receive as TerminalReceive
use Rattle.acq_terminal.specs.Transmit as TerminalTransmit
use Rattle.acq_terminal.specs.Calls as TerminalCalls
use Rattle.acq_controller.specs.Request as ControllerRequest
use Rattle.acq_controller.specs.Data as ControllerData
use Rattle.acq_controller.specs.Told as ControllerTold
use Rattle.acq_controller.specs.Events as ControllerEvents
use Rattle.acq_controller.specs.Asked as ControllerAsked
use Rattle.acq_controller.specs.Report as ControllerReport
use Rattle.acq_pair.specs.Events as PairEvents
use Rattle.acq_pair.specs.Bus as PairBus

unfoldable pub wording : Unit {0}
unfolding Bytes.bytes_of Bytes.words_of Command.read_command_of Control.made_of Count.next_number Cutting.size_answer_of Cutting.messages_of Cutting.message_words_of Cutting.message_subaddress_of Cutting.uses_of Cutting.data_answer_of Cutting.part_of Cutting.message_of Cutting.messages_from Cutting.cut_of Link.mode_allows Link.in_ranges Link.configure_of Link.configured_of Link.short_of Link.message_store_of Link.block_store_of Reading.size_of Reading.plain_of Reading.control_of Reading.read_of Reading.over_of Reading.sized_of Reading.read_descriptor_of Reading.nothing_yet_of Reading.read_request_of Reading.read_confirmation_of Tick.next_tick Tick.age_of
wording = tt

unfoldable pub storing : Unit {0}
unfolding StoresCopying.stored_of StoresCopying.copied_of StoresCopying.zeros_of StoresReading.words_read_of StoresReading.read_of StoresReading.message_words_read_of StoresReading.message_read_of StoresWriting.words_written_of StoresWriting.written_of StoresWriting.room_of StoresWriting.message_words_written_of StoresWriting.message_written_of
storing = tt

unfoldable pub sending : Unit {0}
unfolding TerminalPlace.place_answer_of TerminalPlace.place_of TerminalPlace.store_after TerminalReceive.confirmation_of TerminalReceive.command_of TerminalReceive.receive_of TerminalTransmit.part_sent TerminalTransmit.sent_of TerminalTransmit.moved_of TerminalTransmit.answer_of TerminalTransmit.transmit_of TerminalTransmit.buffer_after TerminalCalls.configuring_of TerminalCalls.restart_of TerminalCalls.reset_of TerminalCalls.report_of
sending = tt

unfoldable pub receiving : Unit {0}
unfolding ControllerRequest.passed_of ControllerRequest.requested_of ControllerRequest.read_of ControllerRequest.polled_of ControllerRequest.due_of ControllerData.next_of ControllerData.fetched_of ControllerData.store_fetched ControllerData.checked_of ControllerData.fetching_of ControllerData.checking_of ControllerTold.short_of ControllerTold.told_of ControllerTold.store_told ControllerTold.hand_told ControllerEvents.frame_of ControllerEvents.restart_of ControllerEvents.take_of ControllerEvents.buffer_after ControllerAsked.asked_of ControllerAsked.message_of ControllerAsked.buffer_asked ControllerAsked.transfer_message ControllerAsked.messages_asked ControllerAsked.message_list ControllerReport.configuring_of ControllerReport.messages_of ControllerReport.report_of
receiving = tt

unfoldable pub meeting : Unit {0}
unfolding PairEvents.place_of PairEvents.reset_of PairEvents.terminal_restarted PairEvents.frame_of PairEvents.controller_restarted PairEvents.take_of PairEvents.configure_of PairBus.arriving_short PairBus.receive_of PairBus.catch_of PairBus.arrive_of PairBus.tell_of PairBus.told_done PairBus.store_done PairBus.hand_done PairBus.told_no_reply PairBus.store_no_reply PairBus.hand_no_reply
meeting = tt

unfoldable pub opened : Unit {0}
unfolding wording storing sending receiving meeting
opened = tt
