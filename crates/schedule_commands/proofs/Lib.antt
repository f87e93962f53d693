mod PacketPieces
